use Rattle.std.proofs.Common.{Ok, map, string_bytes, refl}
use Rattle.cc2_error.specs.Causes.{refusal_of}
use Rattle.cargo_config2.specs.RustcKept.{rustc_command_of}
use Rattle.cc2_cli.specs.CommandLines.{rustc_lines}
use Rattle.cc2_answers.specs.Choices.{IsConfigUnderCause, overrides_by}
use Rattle.cc2_answers.specs.Runs.{IsRustc}
use Rattle.cc2_answers.proofs.Printed.{printed, printed_refusal}
use Rattle.cc2_answers.proofs.ShownRustc.{agrees}
use Rattle.cc2_answers.proofs.answer.rustc_answer.Goals as goal

pub returns-in-Ok : goal.returns-in-Ok
returns-in-Ok g c fs told =
    let machine = c.args.machine.now in
    let dir = c.args.dir.now in
    let os = overrides_by (map string_bytes c.args.choices.now) in
    let config = c.in-Ok.config in
    let (is, free) = c.in-Ok.ensures fs told in
    printed rustc_lines (IsRustc fs machine dir os) (IsConfigUnderCause fs machine dir os) (Ok (rustc_command_of fs config))
    c.rustc_shown-answer.result ((config, is, refl), free)
    (c.rustc_shown-answer.ensures fs told (agrees fs machine dir os config is))

pub returns-in-Err : goal.returns-in-Err
returns-in-Err g c fs told =
    let machine = c.args.machine.now in
    let dir = c.args.dir.now in
    let os = overrides_by (map string_bytes c.args.choices.now) in
    printed_refusal rustc_lines (IsRustc fs machine dir os) (IsConfigUnderCause fs machine dir os)
    (refusal_of c.in-Err.error) c.refusal_answer.result (c.in-Err.ensures fs told) c.refusal_answer.ensures
