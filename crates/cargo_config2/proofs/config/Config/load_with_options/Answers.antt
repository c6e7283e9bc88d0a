use Rattle.cc2_error.proofs.Refused.{answered_exit}
use Rattle.cargo_config2.specs.Loads.{IsConfig, IsConfigCause}
use Rattle.cargo_config2.proofs.Loads.{or_unresolved, is_config, no_cause}
use Rattle.cargo_config2.proofs.config.Config.load_with_options.Goals as goal

pub returns-in_err-resolve : goal.returns-in_err-resolve
returns-in_err-resolve g c fs told =
    let machine = c.args.machine.now in
    let cwd = c.args.cwd.now in
    let options = c.args.options in
    let (loaded, free) = c.in_ok-configured.ensures fs told in
    answered_exit (λ config. config) c.from_residual-in_err-resolve.result
    (IsConfig fs machine cwd options) (IsConfigCause fs machine cwd options) _
    c.from_residual-in_err-resolve.ensures.1
    (or_unresolved fs machine cwd options c.in_ok-configured.configured loaded _ c.in_err-resolve.ensures)

pub returns : goal.returns
returns g c fs told =
    let machine = c.args.machine.now in
    let cwd = c.args.cwd.now in
    let options = c.args.options in
    let configured = c.in_ok-configured.configured in
    let (loaded, free) = c.in_ok-configured.ensures fs told in
    let (is, settled) = c.in_ok-resolve.ensures in (
      is_config fs machine cwd options configured loaded _ is,
      no_cause fs machine cwd options configured loaded _ is free settled,
    )
