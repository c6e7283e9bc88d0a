use Rattle.std.proofs.Common.{◌≡◌}
use Rattle.std.specs.List.{list_any}
use Rattle.cc2_cfg.specs.Meaning.{predicates_of}
use Rattle.cc2_cfg.specs.Shown.{tree_of, predicates_left}
use Rattle.cc2_findings.specs.KeyFaults.{is_debug}
use Rattle.cc2_findings.proofs.cfg_key.asks_debug.Given as goal

-- those that are left have the answer
abbrev pub invariant-loop-predicate : goal.invariant-loop-predicate
invariant-loop-predicate l =
    (goal.iterator-loop-predicate).can_next l.predicate-iterator ×
    (goal.iterator-loop-predicate).is_finite l.predicate-iterator ×
    (list_any is_debug (predicates_left l.predicate-iterator) ≡ list_any is_debug (predicates_of (tree_of l.fn.expression)))
