use Rattle.std.proofs.Common.{map, refl}
use Rattle.cc2_base.specs.Homes.{cargo_home_of}
use Rattle.cc2_error.proofs.Refused.{answered_exit}
use Rattle.cargo_rules.specs.Configs.{IsCargoConfig}
use Rattle.cargo_rules.specs.Loads.{IsCauseUnder}
use Rattle.cargo_rules.proofs.config.Config.load.Goals as goal

pub returns-in_err-settings : goal.returns-in_err-settings
returns-in_err-settings g c fs told reals real =
    let dir = c.args.dir.now in
    let texts = map (λ text. text.now) c.args.overrides.now in
    answered_exit (λ config. config) c.from_residual.result (IsCargoConfig fs reals c.args.machine dir texts)
    (IsCauseUnder fs reals dir texts (cargo_home_of dir c.args.machine)) c.in_err-settings.field-0.0 c.from_residual.ensures.1
    (c.in_err-settings.ensures fs told reals real)

pub returns : goal.returns
returns g c fs told reals real =
    let (is, none) = c.in_ok-settings.ensures fs told reals real in
    (record { settings = is; machine_is = refl; dir_is = c.in_ok-dir.ensures.ok }, none)
