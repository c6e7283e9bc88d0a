use Rattle.std.proofs.Common.{map, string_bytes, sym, subst}
use Rattle.cc2_cli.specs.Answers.{answer_text}
use Rattle.cc2_cli.specs.Choices.{choices_of}
use Rattle.cc2_cli.specs.GetTasks.{task_view}
use Rattle.cc2_cli.specs.declared.get.Task.{Task}
use Rattle.cc2_answers.specs.Questions.{TaskAsksGives}
use Rattle.cc2_answers.proofs.question.answer_to.Goals as goal

pub returns-in-Host-clause-asks : goal.returns-in-Host-clause-asks
returns-in-Host-clause-asks g c fs answers files programs =
    let machine = c.args.machine.now in
    let choices = choices_of (map string_bytes c.args.question.choices.now) in
    let answer = c.host_answer.result in
    subst (λ (task : Task). TaskAsksGives fs answers machine (task_view task) choices (answer_text answer) answer.status)
    (sym c.in-Host.is) (c.host_answer.ensures fs answers files programs)

pub returns-in-Target-clause-asks : goal.returns-in-Target-clause-asks
returns-in-Target-clause-asks g c fs answers files programs =
    let machine = c.args.machine.now in
    let choices = choices_of (map string_bytes c.args.question.choices.now) in
    let answer = c.target_answer.result in
    subst (λ (task : Task). TaskAsksGives fs answers machine (task_view task) choices (answer_text answer) answer.status)
    (sym c.in-Target.is) (c.target_answer.ensures fs answers files programs)
