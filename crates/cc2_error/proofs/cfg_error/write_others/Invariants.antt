use Rattle.std.proofs.Common.{map, take}
use Rattle.std.specs.Fmt.{HasWritten, IsPlainFormatter}
use Rattle.cc2_error.specs.CfgErrorTexts.{others_text}
use Rattle.cc2_error.proofs.cfg_error.write_others.Given as goal

abbrev pub invariant-terms : goal.invariant-terms
invariant-terms g l =
    IsPlainFormatter l.initial.f → HasWritten g.W.Write.write_str_gives l.initial.f (others_text (map (λ t. t.now) (take l.term-index l.terms))) l.f
