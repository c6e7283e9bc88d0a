use Rattle.std.proofs.Common.{◌≡◌, length}
use Rattle.cc2_cfg.specs.Shown.{predicates_left}
use Rattle.cc2_cfg.proofs.expression.PredicatesIterator.next.Given as goal

abbrev pub invariant-nodes : goal.invariant-nodes
invariant-nodes l = predicates_left l.initial.self ≡ predicates_left l.self

abbrev pub decreases-nodes : goal.decreases-nodes
decreases-nodes l = length l.self.rest.now
