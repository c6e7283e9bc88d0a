use Rattle.std.proofs.Common.{map, string_bytes, sym, ◌∙◌}
use Rattle.cc2_cli.specs.Answers.{answer_text}
use Rattle.cc2_reply.proofs.ByState.{not_alone, words_alone}
use Rattle.cc2_reply.proofs.by_state.words_by_state.Goals as goal

pub returns-then-are_items_alone : goal.returns-then-are_items_alone
returns-then-are_items_alone g c fs answers files programs s is =
    let answer = c.items_by_state.result in
    words_alone fs answers c.args.machine.now c.args.dir.now s (map string_bytes c.args.words.now) (answer_text answer) answer.status
    (sym c.are_items_alone.ensures ∙ c.if-are_items_alone.true) (c.items_by_state.ensures fs answers files programs s is)

pub returns-else-are_items_alone : goal.returns-else-are_items_alone
returns-else-are_items_alone g c fs answers files programs s is =
    let answer = c.no_answer.result in
    not_alone fs answers c.args.machine.now c.args.dir.now s (map string_bytes c.args.words.now) (answer_text answer) answer.status
    (sym c.are_items_alone.ensures ∙ c.if-are_items_alone.false) c.no_answer.ensures.text c.no_answer.ensures.status
