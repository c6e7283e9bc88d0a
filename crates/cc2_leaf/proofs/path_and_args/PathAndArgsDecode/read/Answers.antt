use Rattle.std.proofs.Common.{[], ◌∷◌}
use Rattle.toml.specs.View.{view}
use Rattle.cc2_value.specs.Values.{words_of}
use Rattle.cc2_value.specs.Copies.{origin_given}
use Rattle.cc2_leaf.specs.Commands.{command_made}
use Rattle.cc2_leaf.proofs.Making.{made_refused, command_agrees}
use Rattle.cc2_leaf.proofs.path_and_args.PathAndArgsDecode.read.Goals as goal

pub returns-in-Err-command-clause-refused : goal.returns-in-Err-command-clause-refused
returns-in-Err-command-clause-refused c =
    let texts = c.in-Ok.texts in
    made_refused command_made command_agrees (origin_given c.args.definition) (c.args.key.now ∷ [])
    (view c.args.value) texts.repr (words_of texts.list.items) c.in-Err-command.error
    c.in-Ok.ensures.ok (c.in-Err-command.ensures.refused (c.args.key.now ∷ []))
