use Rattle.std.proofs.Common.{subst}
use Rattle.cc2_ask.specs.Views.{given_view}
use Rattle.cc2_reply.specs.Answered.{IsAnsweredBy}
use Rattle.cc2_reply.specs.declared.load.Answered.{Answered}
use Rattle.cc2_reply.proofs.Answered.{answered_is, of_given}
use Rattle.cc2_reply.proofs.reply.reply_by.Goals as goal

pub returns-in-Answer : goal.returns-in-Answer
returns-in-Answer c =
    let given = c.args.given.now in
    answered_is given c.in-Answer.answer c.answered.result
    (subst (λ (found : Answered). IsAnsweredBy (given_view given) given.machine found) c.in-Answer.is c.looked_up-answer.ensures)
    c.answered.ensures.answer c.answered.ensures.known

pub returns-in-Loaded : goal.returns-in-Loaded
returns-in-Loaded c =
    let given = c.args.given.now in
    record {
      machine = given.machine;
      given = of_given given;
      loads = subst (λ (found : Answered). IsAnsweredBy (given_view given) given.machine found) c.in-Loaded.is c.looked_up-answer.ensures;
    }
