use Rattle.std.proofs.Common.{map, string_bytes}
use Rattle.cc2_answers.specs.Items.{items_of}
use Rattle.cc2_answers.proofs.Shown.{prints_items}
use Rattle.cc2_answers.proofs.several.items_answer.Goals as goal

pub returns : goal.returns
returns g c fs answers files programs ready =
    prints_items fs answers c.args.config.now (items_of (map string_bytes c.args.words.now)) c.all_lines-lines.result c.answer_by.result
    (c.all_lines-lines.ensures fs answers files programs ready) c.answer_by.ensures
