use Rattle.std.proofs.Common.{arith}
use Rattle.std.proofs.lemmas.Grind.{common_steps}
use Rattle.cc2_base.proofs.Lineage.{ancestors_step}
use Rattle.cc2_base.proofs.path_iter.AncestorsIterator.next.Goals as goal

pub returns-clause-steps : goal.returns-clause-steps
returns-clause-steps c =
    let e = ancestors_step c.in_ok-path.path.now in grind (
      arith,
      common_steps,
      c.parent-self.ensures,
      c.branch-path.ensures,
    )

pub returns-clause-goes : goal.returns-clause-goes
returns-clause-goes c =
    let e = ancestors_step c.in_ok-path.path.now in grind (
      arith,
      common_steps,
      c.parent-self.ensures,
      c.branch-path.ensures,
    )
