use Rattle.std.proofs.Common.{Ok, Err, option_map}
use Rattle.std.specs.Option.{option_copied}
use Rattle.cc2_de.proofs.Chosen.{unloaded, applied, unranked, overridden}
use Rattle.cc2_de.proofs.configured.load_in.Goals as goal

pub returns-in_err-loaded : goal.returns-in_err-loaded
returns-in_err-loaded g c fs told =
    unloaded fs c.args.machine.now c.args.context.now c.current_dir.result.now c.current_dir.ensures
    (option_map option_copied c.cargo_home-home.result) c.cargo_home-home.ensures
    c.from_residual.result _ c.from_residual.ensures.1 (c.in_err-loaded.ensures fs told)

pub returns-in_err-ranked : goal.returns-in_err-ranked
returns-in_err-ranked g c fs told =
    let chosen = option_map option_copied c.cargo_home-home.result in
    unranked fs c.args.machine.now c.args.context.now c.current_dir.result.now c.current_dir.ensures chosen
    c.cargo_home-home.ensures c.from_residual-in_err-ranked.result _ c.from_residual-in_err-ranked.ensures.1
    (applied fs c.args.machine.now c.args.context.now c.current_dir.result.now c.current_dir.ensures chosen
    c.cargo_home-home.ensures c.in_ok-loaded.loaded (Err c.in_err-ranked.field-0.0) (c.in_ok-loaded.ensures fs told) c.in_err-ranked.ensures.ok
    c.in_err-ranked.ensures.refused)

pub returns : goal.returns
returns g c fs told =
    let chosen = option_map option_copied c.cargo_home-home.result in
    overridden fs c.args.machine.now c.args.context.now c.current_dir.result.now c.current_dir.ensures chosen
    c.cargo_home-home.ensures c.in_ok-ranked.ranked c.apply_overrides.result
    (applied fs c.args.machine.now c.args.context.now c.current_dir.result.now c.current_dir.ensures chosen
    c.cargo_home-home.ensures c.in_ok-loaded.loaded (Ok c.in_ok-ranked.ranked) (c.in_ok-loaded.ensures fs told) c.in_ok-ranked.ensures.ok
    c.in_ok-ranked.ensures.refused)
    (c.apply_overrides.ensures fs told)
