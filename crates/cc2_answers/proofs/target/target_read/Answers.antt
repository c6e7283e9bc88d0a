use Rattle.std.proofs.Common.{Option, sym, subst}
use Rattle.cc2_error.specs.Causes.{refusal_of}
use Rattle.cc2_resolved.specs.Targets.{Target, target_of}
use Rattle.cc2_cli.specs.Answers.{answer_text}
use Rattle.cc2_answers.specs.TargetRuns.{PrintsFor}
use Rattle.cc2_answers.proofs.ShownTarget.{prints_no_target}
use Rattle.cc2_target.proofs.Exits.{known_none, known_one}
use Rattle.cc2_answers.proofs.target.target_read.Goals as goal

pub returns-in-Ok : goal.returns-in-Ok
returns-in-Ok g c fs answers files programs agrees =
    let answer = c.target_shown.result in
    subst (λ (o : Option Target). PrintsFor fs answers c.args.config.now o (answer_text answer) answer.status)
    (sym (known_one (target_of c.args.text.now) _ _ c.in-Ok.ensures.target))
    (c.target_shown.ensures fs answers files programs agrees)

pub returns-in-Err : goal.returns-in-Err
returns-in-Err g c fs answers files programs agrees =
    let (none, is) = known_none (target_of c.args.text.now) _ _ c.in-Err.ensures.target in
    prints_no_target fs answers c.args.config.now (target_of c.args.text.now)
    (refusal_of c.in-Err.error) c.refusal_answer.result
    none is c.refusal_answer.ensures
