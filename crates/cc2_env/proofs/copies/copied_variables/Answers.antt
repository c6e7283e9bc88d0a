use Rattle.cc2_env.proofs.Copying.{copied_in}
use Rattle.cc2_env.proofs.copies.copied_variables.Goals as goal

pub returns-clause-ok : goal.returns-clause-ok
returns-clause-ok c = copied_in c.args.env.now c.in_ok-copy.copy c.in_ok-copy.ensures.cases
