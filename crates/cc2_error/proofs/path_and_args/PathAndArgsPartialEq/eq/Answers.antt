use Rattle.std.proofs.Common.{arith}
use Rattle.std.proofs.lemmas.Grind.{common_steps}
use Rattle.cc2_error.specs.Commands.{command_of}
use Rattle.cc2_error.specs.CommandLaws.{same_command-Decides}
use Rattle.cc2_error.proofs.path_and_args.PathAndArgsPartialEq.eq.Goals as goal

pub returns-clause-same : goal.returns-clause-same
returns-clause-same c =
    let d = same_command-Decides (command_of c.args.self.now) (command_of c.args.other.now) in grind
    (arith, common_steps)
