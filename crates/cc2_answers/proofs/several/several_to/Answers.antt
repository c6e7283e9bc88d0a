use Rattle.std.proofs.Common.{map, string_bytes}
use Rattle.cc2_cli.specs.Answers.{answer_text}
use Rattle.cc2_answers.proofs.Shown.{words_give}
use Rattle.cc2_answers.proofs.several.several_to.Goals as goal

pub returns-in-Some-clause-told : goal.returns-in-Some-clause-told
returns-in-Some-clause-told g c fs answers files programs =
    let answer = c.several_answer.result in
    words_give fs answers c.args.machine.now c.args.dir.now (map string_bytes c.args.words.now) (map string_bytes c.in-Some.choices.now)
    (answer_text answer) answer.status c.in-Some.ensures (c.several_answer.ensures fs answers files programs)
