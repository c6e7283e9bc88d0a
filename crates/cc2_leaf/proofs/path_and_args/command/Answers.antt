use Rattle.std.proofs.Common.{List, String, Global, ap}
use Rattle.cc2_value.specs.Values.{words_of}
use Rattle.cc2_value.specs.Ways.{no_word}
use Rattle.cc2_value.specs.declared.value.Value.{Value}
use Rattle.cc2_leaf.specs.Lists.{is_array}
use Rattle.cc2_leaf.specs.Commands.{command_made}
use Rattle.cc2_leaf.proofs.Making.{fault_made}
use Rattle.cc2_leaf.proofs.path_and_args.command.Goals as goal

pub returns-in-None-clause-refused : goal.returns-in-None-clause-refused
returns-in-None-clause-refused c =
    let array = is_array c.args.texts.repr in
    fault_made (command_made array (words_of c.args.texts.list.items)) no_word _
    (ap (λ (vs : List (Value (String Global))). command_made array (words_of vs))
    c.in-None.ensures.none) (λ path. c.new.ensures)
