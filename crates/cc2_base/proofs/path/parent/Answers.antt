use Rattle.std.proofs.Common.{arith}
use Rattle.std.proofs.lemmas.Grind.{common_steps}
use Rattle.cc2_base.proofs.Parents.{path_parent_is}
use Rattle.cc2_base.proofs.path.parent.Goals as goal

pub returns-in-Some : goal.returns-in-Some
returns-in-Some c =
    let e = path_parent_is c.args.path.now in grind (arith, common_steps, c.parent.ensures, c.new.ensures)

pub returns-in-None : goal.returns-in-None
returns-in-None c =
    let e = path_parent_is c.args.path.now in grind (arith, common_steps, c.parent.ensures, c.new.ensures)
