use Rattle.std.proofs.Common.{Ok, map, string_bytes, refl}
use Rattle.cc2_error.specs.Causes.{refusal_of}
use Rattle.cc2_de.specs.Config.{config_at}
use Rattle.cc2_cli.specs.Lines.{build_lines}
use Rattle.cc2_cli.proofs.Shown.{shown}
use Rattle.cc2_answers.specs.Choices.{overrides_by}
use Rattle.cc2_answers.specs.Environments.{IsBuilt, IsBuiltCause}
use Rattle.cc2_answers.proofs.Printed.{printed, printed_refusal}
use Rattle.cc2_answers.proofs.answer.build_answer.Goals as goal

pub returns-in-Ok : goal.returns-in-Ok
returns-in-Ok g c fs told =
    let machine = c.args.machine.now in
    let dir = c.args.dir.now in
    let os = overrides_by (map string_bytes c.args.choices.now) in
    let cells = config_at c.in-Ok.configured.config in
    let answer = c.answer_of-answer.result in
    printed build_lines (IsBuilt fs machine dir os) (IsBuiltCause fs machine dir os) (Ok cells) answer (c.in-Ok.ensures fs told)
    (shown build_lines cells (Ok cells) c.build_lines.result answer refl c.build_lines.ensures c.answer_of-answer.ensures)

pub returns-in-Err : goal.returns-in-Err
returns-in-Err g c fs told =
    let machine = c.args.machine.now in
    let dir = c.args.dir.now in
    let os = overrides_by (map string_bytes c.args.choices.now) in
    printed_refusal build_lines (IsBuilt fs machine dir os) (IsBuiltCause fs machine dir os) (refusal_of c.in-Err.error)
    c.refusal_answer.result (c.in-Err.ensures fs told) c.refusal_answer.ensures
