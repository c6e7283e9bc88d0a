use Rattle.std.proofs.Common.{◌≡◌, map, string_bytes}
use Rattle.std.proofs.lemmas.Result.{err_from_is_err_and}
use Rattle.cc2_program.specs.CargoPrograms.{host_by}
use Rattle.cargo_rules.specs.WithEnv.{IsWithEnv}
use Rattle.cc2_target_answers.proofs.CargoLoaded.{by_loaded, by_unloaded}
use Rattle.cc2_program.proofs.cargo_programs.host_under.Goals as goal

pub returns-in_err-settings : goal.returns-in_err-settings
returns-in_err-settings g c fs real_paths own files reals runs =
    let p = err_from_is_err_and c.from_residual.result c.from_residual.ensures.1 in
    let machine = c.args.machine.now in
    let dir = c.args.dir.now in
    let overrides = map (λ text. text.now) c.args.overrides.now in
    rw (p.1, p.2)
    (by_unloaded fs real_paths machine dir overrides (λ settings. IsWithEnv (λ answers o. o ≡ host_by settings machine dir answers) settings machine dir own)
    c.in_err-settings.field-0.0 (c.in_err-settings.ensures fs real_paths files reals))

pub returns : goal.returns
returns g c fs real_paths own files reals runs =
    let machine = c.args.machine.now in
    let dir = c.args.dir.now in
    let overrides = map (λ text. text.now) c.args.overrides.now in
    let settings = c.in_ok-settings.settings in
    let (is, none) = c.in_ok-settings.ensures fs real_paths files reals in
    by_loaded fs real_paths machine dir overrides (λ found. IsWithEnv (λ answers o. o ≡ host_by found machine dir answers) found machine dir own)
    string_bytes settings c.host_of-host.result is none (c.host_of-host.ensures own runs)
