use Rattle.std.proofs.Common.{map, string_bytes}
use Rattle.cc2_error.specs.Causes.{refusal_of}
use Rattle.cc2_answers.specs.Choices.{overrides_by}
use Rattle.cc2_answers.proofs.ShownHost.{agrees_whole}
use Rattle.cc2_answers.proofs.ShownTarget.{prints_no_load, prints_target}
use Rattle.cc2_answers.proofs.target.target_answer.Goals as goal

pub returns-in-Ok : goal.returns-in-Ok
returns-in-Ok g c fs answers files programs =
    let machine = c.args.machine.now in
    let dir = c.args.dir.now in
    let os = overrides_by (map string_bytes c.args.choices.now) in
    let config = c.in-Ok.config in
    let (is, free) = c.in-Ok.ensures fs files in
    prints_target fs answers machine dir c.args.text.now os c.target_read-answer.result config is free
    (c.target_read-answer.ensures fs answers files programs (agrees_whole fs answers machine dir os config is))

pub returns-in-Err : goal.returns-in-Err
returns-in-Err g c fs answers files programs =
    let os = overrides_by (map string_bytes c.args.choices.now) in
    prints_no_load fs answers c.args.machine.now c.args.dir.now c.args.text.now os c.refusal_answer.result
    (refusal_of c.in-Err.error) (c.in-Err.ensures fs files) c.refusal_answer.ensures
