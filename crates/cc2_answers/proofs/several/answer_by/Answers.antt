use Rattle.std.proofs.Common.{Ok, ap, refl, inl}
use Rattle.cc2_error.specs.Causes.{refusal_of}
use Rattle.cc2_cli.proofs.Shown.{refused, shown}
use Rattle.cc2_answers.specs.SeveralRuns.{as_it_is, outcome_of}
use Rattle.cc2_answers.proofs.several.answer_by.Goals as goal

pub returns-in-Ok : goal.returns-in-Ok
returns-in-Ok c =
    shown as_it_is c.in-Ok.lines.items (outcome_of c.args.lines) (Ok c.in-Ok.lines) c.answer_of.result
    (ap outcome_of c.in-Ok.is) refl c.answer_of.ensures

pub returns-in-Err : goal.returns-in-Err
returns-in-Err c =
    refused as_it_is (outcome_of c.args.lines) (refusal_of c.in-Err.error) c.refusal_answer.result (inl (ap outcome_of c.in-Err.is))
    c.refusal_answer.ensures
