use Rattle.std.proofs.Common.{map}
use Rattle.std.proofs.lemmas.Result.{err_from_is_err_and}
use Rattle.serde_json.specs.View.{view}
use Rattle.cc2_target_answers.specs.CargoTargets.{AreAsked}
use Rattle.cargo_rules.specs.WithEnv.{IsWithEnv}
use Rattle.cc2_target_answers.proofs.CargoLoaded.{by_loaded, by_unloaded}
use Rattle.cc2_target_answers.proofs.by_cargo.cargo_targets.Goals as goal

pub returns-in_err-settings-clause-told : goal.returns-in_err-settings-clause-told
returns-in_err-settings-clause-told g c fs real_paths own files reals runs =
    let p = err_from_is_err_and c.from_residual.result c.from_residual.ensures.1 in
    let machine = c.args.machine.now in
    let dir = c.args.dir.now in
    let texts = map (λ text. text.now) c.args.texts.now in
    let scripts = c.args.build_scripts in
    rw (p.1, p.2)
    (by_unloaded fs real_paths machine dir (map (λ text. text.now) c.args.overrides.now)
    (λ settings. IsWithEnv (λ answers o. AreAsked settings machine dir texts answers scripts o) settings machine dir own)
    c.in_err-settings.field-0.0 (c.in_err-settings.ensures fs real_paths files reals))

pub returns-clause-told : goal.returns-clause-told
returns-clause-told g c fs real_paths own files reals runs =
    let machine = c.args.machine.now in
    let dir = c.args.dir.now in
    let texts = map (λ text. text.now) c.args.texts.now in
    let scripts = c.args.build_scripts in
    let (is, none) = c.in_ok-settings.ensures fs real_paths files reals in
    by_loaded fs real_paths machine dir (map (λ text. text.now) c.args.overrides.now)
    (λ settings. IsWithEnv (λ answers o. AreAsked settings machine dir texts answers scripts o) settings machine dir own)
    view c.in_ok-settings.settings c.targets_with_env-json.result is none (c.targets_with_env-json.ensures.told own runs)
