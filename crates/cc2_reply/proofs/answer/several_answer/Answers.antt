use Rattle.std.proofs.Common.{map, string_bytes}
use Rattle.cc2_cli.specs.Answers.{answer_text}
use Rattle.cc2_answers.specs.Items.{items_in}
use Rattle.cc2_reply.proofs.Items.{of_none, of_some}
use Rattle.cc2_reply.proofs.answer.several_answer.Goals as goal

pub returns-in-Some : goal.returns-in-Some
returns-in-Some g c fs answers files programs =
    let answer = c.in-Some.answer in
    of_some fs answers c.args.machine.now c.args.dir.now (answer_text answer) answer.status
    (items_in (map string_bytes c.args.words.now)) c.in-Some.ensures.none (c.in-Some.ensures.told fs answers files programs)

pub returns-in-None : goal.returns-in-None
returns-in-None g c fs answers files programs =
    let answer = c.no_answer.result in
    of_none fs answers c.args.machine.now c.args.dir.now (answer_text answer) answer.status
    (items_in (map string_bytes c.args.words.now)) c.in-None.ensures.none c.no_answer.ensures.text c.no_answer.ensures.status
