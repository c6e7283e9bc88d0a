use Rattle.std.proofs.Common.{◌≡◌, ◌++◌, length}
use Rattle.toml.specs.View.{table_view}
use Rattle.cc2_findings.specs.Alone.{AreJudged}
use Rattle.cc2_findings.proofs.Keyed.{paths_of}
use Rattle.cc2_findings.proofs.alone.refused_among.Given as goal

-- the keys taken are looked at, and the others follow them
abbrev pub invariant-loop-key : goal.invariant-loop-key
invariant-loop-key g l =
    (l.yielded ++ l.key-iterator.rest.items ≡ l.fn.keys.items)
    × (l.key-iterator.rest.len ≡ length l.key-iterator.rest.items)
    × AreJudged (g.J.Judge.judges l.judge) (table_view l.table) (paths_of l.yielded) l.found.items
