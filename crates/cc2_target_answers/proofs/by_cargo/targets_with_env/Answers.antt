use Rattle.std.proofs.Common.{map}
use Rattle.serde_json.specs.View.{view}
use Rattle.cc2_cargo_settings.specs.EnvVariables.{variables_view}
use Rattle.cc2_target_answers.specs.CargoTargets.{AreAsked}
use Rattle.cargo_rules.specs.WithEnv.{IsWithEnv}
use Rattle.cc2_target_answers.proofs.CargoEnv.{with_variables, without_variables}
use Rattle.cc2_target_answers.proofs.Found.{comes_exit}
use Rattle.cc2_target_answers.proofs.by_cargo.targets_with_env.Goals as goal

pub returns-in_err-variables-clause-told : goal.returns-in_err-variables-clause-told
returns-in_err-variables-clause-told g c own runs =
    let settings = c.args.sources.settings.now in
    let machine = c.args.sources.machine.now in
    let dir = c.args.dir.now in
    let texts = map (λ text. text.now) c.args.texts.now in
    let scripts = c.args.build_scripts in
    let (names, are, gives) = c.in_err-variables.ensures in
    let e = c.in_err-variables.field-0.0 in
    comes_exit view (IsWithEnv (λ answers o. AreAsked settings machine dir texts answers scripts o) settings machine dir own) c.from_residual.result e
    c.from_residual.ensures.1
    (without_variables (λ answers o. AreAsked settings machine dir texts answers scripts o) settings machine dir own names are e gives)

pub returns-clause-told : goal.returns-clause-told
returns-clause-told g c own runs =
    let settings = c.args.sources.settings.now in
    let machine = c.args.sources.machine.now in
    let dir = c.args.dir.now in
    let texts = map (λ text. text.now) c.args.texts.now in
    let scripts = c.args.build_scripts in
    let (names, are, gives) = c.in_ok-variables.ensures in
    let variables = variables_view c.in_ok-variables.variables in
    with_variables (λ answers o. AreAsked settings machine dir texts answers scripts o) settings machine dir own names are view variables c.asked_of.result gives
    (c.asked_of.ensures.told (own variables) (c.set_variables.ensures.told own runs))
