use Rattle.std.proofs.Common.{refl, inl, inr}
use Rattle.cc2_show_answers.specs.ToldAnswers.{written}
use Rattle.cc2_reply.proofs.answer.request_answer.Goals as goal

pub returns-in-Some : goal.returns-in-Some
returns-in-Some g c fs tree = inl (written c.in-Some.told, c.in-Some.ensures.told fs tree, c.on_either.ensures.text, c.on_either.ensures.status)

pub returns-in-None : goal.returns-in-None
returns-in-None g c fs tree = inr (c.in-None.ensures.none refl, c.no_answer.ensures.text, c.no_answer.ensures.status)
