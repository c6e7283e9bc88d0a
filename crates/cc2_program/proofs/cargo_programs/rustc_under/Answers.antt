use Rattle.std.proofs.Common.{◌≡◌, map}
use Rattle.std.proofs.lemmas.Result.{err_from_is_err_and}
use Rattle.cc2_cargo.specs.Raw.{raw_members_at}
use Rattle.cc2_cargo_target.specs.Rustc.{rustc_command}
use Rattle.cc2_error.specs.Commands.{command_of}
use Rattle.cc2_target_answers.proofs.CargoLoaded.{by_loaded, by_unloaded, gives_comes}
use Rattle.cc2_program.proofs.cargo_programs.rustc_under.Goals as goal

pub returns-in_err-settings : goal.returns-in_err-settings
returns-in_err-settings g c fs real_paths files reals =
    let p = err_from_is_err_and c.from_residual.result c.from_residual.ensures.1 in
    let machine = c.args.machine.now in
    let dir = c.args.dir.now in
    let overrides = map (λ text. text.now) c.args.overrides.now in
    rw (p.1, p.2)
    (by_unloaded fs real_paths machine dir overrides (λ settings outcome. outcome ≡ rustc_command (raw_members_at settings) machine dir)
    c.in_err-settings.field-0.0 (c.in_err-settings.ensures fs real_paths files reals))

pub returns : goal.returns
returns g c fs real_paths files reals =
    let machine = c.args.machine.now in
    let dir = c.args.dir.now in
    let overrides = map (λ text. text.now) c.args.overrides.now in
    let settings = c.in_ok-settings.settings in
    let stated = rustc_command (raw_members_at settings) machine dir in
    let (is, none) = c.in_ok-settings.ensures fs real_paths files reals in
    by_loaded fs real_paths machine dir overrides (λ found outcome. outcome ≡ rustc_command (raw_members_at found) machine dir) command_of settings
    c.rustc_command-rustc.result is none (gives_comes command_of stated c.rustc_command-rustc.result c.rustc_command-rustc.ensures)
