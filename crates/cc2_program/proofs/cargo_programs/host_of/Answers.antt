use Rattle.std.proofs.Common.{◌≡◌, string_bytes}
use Rattle.cc2_cargo_settings.specs.EnvVariables.{variables_view}
use Rattle.cc2_program.specs.CargoPrograms.{host_by}
use Rattle.cargo_rules.specs.WithEnv.{IsWithEnv}
use Rattle.cc2_target_answers.proofs.CargoEnv.{with_variables, without_variables}
use Rattle.cc2_target_answers.proofs.CargoLoaded.{gives_comes}
use Rattle.cc2_target_answers.proofs.Found.{comes_exit}
use Rattle.cc2_program.proofs.cargo_programs.host_of.Goals as goal

pub returns-in_err-variables : goal.returns-in_err-variables
returns-in_err-variables g c own runs =
    let settings = c.args.sources.settings.now in
    let machine = c.args.sources.machine.now in
    let dir = c.args.dir.now in
    let (names, are, gives) = c.in_err-variables.ensures in
    let e = c.in_err-variables.field-0.0 in
    comes_exit string_bytes (IsWithEnv (λ answers o. o ≡ host_by settings machine dir answers) settings machine dir own) c.from_residual.result e
    c.from_residual.ensures.1
    (without_variables (λ answers o. o ≡ host_by settings machine dir answers) settings machine dir own names are e gives)

pub returns : goal.returns
returns g c own runs =
    let settings = c.args.sources.settings.now in
    let machine = c.args.sources.machine.now in
    let dir = c.args.dir.now in
    let (names, are, gives) = c.in_ok-variables.ensures in
    let variables = variables_view c.in_ok-variables.variables in
    with_variables (λ answers o. o ≡ host_by settings machine dir answers) settings machine dir own names are string_bytes variables c.host_by.result gives
    (gives_comes string_bytes (host_by settings machine dir (own variables)) c.host_by.result
    (c.host_by.ensures (own variables) (c.set_variables.ensures.told own runs)))
