use Rattle.std.proofs.Common.{List, length}
use denote.Text.{Utf8}
use denote.Shadow.{shadow}
use denote.Param.Always.{always_mut}
use Rattle.cc2_cfg.specs.Meaning.{Atom}
use Rattle.cc2_cargo.specs.Meaning.{AnswerMap, Follows}
use Rattle.cc2_cargo.specs.Machine.{ReaderState}
use Rattle.cc2_cargo.specs.Reading.{KeepsState}
use Rattle.cc2_cargo.proofs.Going.{Going, Asks}
use Rattle.cc2_cargo.proofs.cfg_key.evaluate.Given as goal

abbrev pub invariant-tokens : goal.invariant-tokens
invariant-tokens g l =
    shadow (Utf8 l.rest) × always_mut g.F.FnMut l.holds
    × ((s : ReaderState) × Going l.text l.rest s
    × ((known : AnswerMap) (asked : List Atom) → Asks known asked l.text → Follows g.F.FnMut known asked l.fn.holds
    → Follows g.F.FnMut known asked l.holds × KeepsState known l.reader s))

abbrev pub decreases-tokens : goal.decreases-tokens
decreases-tokens g l = length l.rest
