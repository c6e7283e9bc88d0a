use Rattle.std.proofs.Common.{◌≡◌}
use Rattle.std.specs.Prelude.{reverse}
use Rattle.cc2_cfg.specs.Running.{finished}
use Rattle.cc2_cfg.proofs.evaluator.end_all.Given as goal

abbrev pub invariant-outer : goal.invariant-outer
invariant-outer g l = finished g.T.Logic.operations (reverse l.stack.items) l.value ≡ finished g.T.Logic.operations (reverse l.initial.stack.items) l.initial.value

abbrev pub decreases-outer : goal.decreases-outer
decreases-outer g l = goal.left-outer g l
