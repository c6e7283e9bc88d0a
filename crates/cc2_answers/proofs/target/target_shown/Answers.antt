use Rattle.std.proofs.Common.{Ok, refl}
use Rattle.cc2_error.specs.Causes.{refusal_of}
use Rattle.cc2_resolved.specs.ShownTargets.{target_at}
use Rattle.cc2_resolved.specs.TargetConfigs.{shown as shown_of}
use Rattle.cc2_cli.proofs.Shown.{shown}
use Rattle.cc2_answers.specs.TargetLines.{target_lines}
use Rattle.cc2_answers.proofs.ShownTarget.{prints_refusal, prints_settings}
use Rattle.cc2_answers.proofs.target.target_shown.Goals as goal

pub returns-in-Ok : goal.returns-in-Ok
returns-in-Ok g c fs answers files programs agrees =
    let a = shown_of c.in-Ok.settings in
    prints_settings fs answers c.args.config.now (target_at c.args.target.now) a c.answer_of.result
    (c.in-Ok.ensures.answer fs answers files programs agrees)
    (shown target_lines a (Ok a) c.target_lines.result c.answer_of.result refl c.target_lines.ensures
    c.answer_of.ensures)

pub returns-in-Err : goal.returns-in-Err
returns-in-Err g c fs answers files programs agrees =
    prints_refusal fs answers c.args.config.now (target_at c.args.target.now)
    (refusal_of c.in-Err.error) c.refusal_answer.result
    (c.in-Err.ensures.answer fs answers files programs agrees) c.refusal_answer.ensures
