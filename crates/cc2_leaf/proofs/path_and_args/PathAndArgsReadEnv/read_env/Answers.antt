use Rattle.std.proofs.Common.{Some}
use Rattle.cc2_value.specs.Cells.{variable}
use Rattle.cc2_value.specs.Values.{words_of}
use Rattle.cc2_leaf.specs.Commands.{command_made}
use Rattle.cc2_leaf.specs.Pieces.{spaced}
use Rattle.cc2_leaf.proofs.Making.{command_agrees}
use Rattle.cc2_leaf.proofs.TextFaults.{made_unread}
use Rattle.cc2_leaf.proofs.path_and_args.PathAndArgsReadEnv.read_env.Goals as goal

pub returns-in-Err-clause-refused : goal.returns-in-Err-clause-refused
returns-in-Err-clause-refused c =
    made_unread command_made command_agrees (Some (variable c.args.name.now)) (spaced c.args.text.now)
    (words_of c.in_ok-list.list.items) c.in-Err.error
    c.in_ok-list.ensures.ok c.in-Err.ensures.refused
