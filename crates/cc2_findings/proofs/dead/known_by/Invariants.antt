use Rattle.std.proofs.Common.{◌≡◌, map, drop}
use Rattle.cc2_cfg.specs.Table.{atom_of}
use Rattle.cc2_findings.specs.Dead.{known_by, decided_view}
use Rattle.cc2_findings.proofs.dead.known_by.Given as goal

-- those that are left have the answer
abbrev pub invariant-loop-one : goal.invariant-loop-one
invariant-loop-one l =
    known_by (map decided_view (drop l.one-index l.decided)) (atom_of l.predicate) ≡ known_by (map decided_view l.fn.decided) (atom_of l.fn.predicate)
