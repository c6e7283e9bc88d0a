use Rattle.std.proofs.Common.{map, string_bytes, sym, subst}
use Rattle.cc2_cli.specs.Answers.{answer_text}
use Rattle.cc2_cli.specs.Choices.{choices_of}
use Rattle.cc2_cli.specs.ShowTasks.{task_view}
use Rattle.cc2_cli.specs.declared.show.Task.{Task}
use Rattle.cc2_reply.specs.Replies.{ShowAnswers}
use Rattle.cc2_reply.proofs.answer.show_answer.Goals as goal

pub returns-in-Show : goal.returns-in-Show
returns-in-Show g c fs tree =
    let choices = choices_of (map string_bytes c.args.question.choices.now) in
    subst (λ (task : Task). ShowAnswers fs c.args.machine.now (task_view task) choices (answer_text c.request_answer.result) c.request_answer.result.status)
    (sym c.in-Show.is) (c.request_answer.ensures fs tree)
