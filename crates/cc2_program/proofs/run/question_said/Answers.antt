use Rattle.cc2_cli.specs.Answers.{answer_text}
use Rattle.cc2_program.proofs.run.question_said.Goals as goal

pub returns-in-Some-clause-told : goal.returns-in-Some-clause-told
returns-in-Some-clause-told g c fs told asks =
    (answer_text c.in-Some.answer, c.in-Some.answer.status, c.in-Some.ensures.told fs told, c.by_status.ensures.is)

pub returns-in-Some-clause-asks : goal.returns-in-Some-clause-asks
returns-in-Some-clause-asks g c fs answers told programs asks =
    (answer_text c.in-Some.answer, c.in-Some.answer.status, c.in-Some.ensures.asks fs answers told programs, c.by_status.ensures.is)
