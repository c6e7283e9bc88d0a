use Rattle.std.proofs.Common.{◌≡◌, ◌∷◌, ◌++◌, map, drop}
use Rattle.cc2_findings.specs.Dead.{named_view, decided_view}
use Rattle.cc2_findings.proofs.dead.one_more.Given as goal

-- those that were put, and then those that are left
abbrev pub invariant-loop-one : goal.invariant-loop-one
invariant-loop-one l =
    map decided_view l.all.items ++ map decided_view (drop l.one-index l.decided)
    ≡ (named_view l.named, l.is_printed) ∷ map decided_view l.fn.decided
