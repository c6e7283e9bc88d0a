use Rattle.std.proofs.Common.{◌≡◌, ◌++◌, map}
use Rattle.cc2_cfg.specs.Meaning.{predicates_of}
use Rattle.cc2_cfg.specs.Shown.{tree_of, predicates_left}
use Rattle.cc2_findings.specs.Dead.{named_view}
use Rattle.cc2_findings.proofs.dead.predicates_in.Given as goal

-- what was found, and then those that are left
abbrev pub invariant-loop-predicate : goal.invariant-loop-predicate
invariant-loop-predicate l =
    (goal.iterator-loop-predicate).can_next l.predicate-iterator ×
    (goal.iterator-loop-predicate).is_finite l.predicate-iterator ×
    (map named_view l.found.items ++ predicates_left l.predicate-iterator ≡ predicates_of (tree_of l.fn.expression))
