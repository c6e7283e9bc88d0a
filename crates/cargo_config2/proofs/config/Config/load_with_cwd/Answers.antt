use Rattle.std.proofs.Common.{◌≡◌, subst}
use Rattle.cc2_error.specs.Outcomes.{Answered}
use Rattle.cc2_env.specs.declared.options.ResolveOptions.{ResolveOptions}
use Rattle.cargo_config2.specs.Loads.{IsConfig, IsConfigCause, nothing_chosen}
use Rattle.cargo_config2.proofs.config.Config.load_with_cwd.Goals as goal

pub returns : goal.returns
returns g c fs told =
    let machine = c.args.machine.now in
    let cwd = c.args.cwd.now in
    let unset = c.default.ensures in
    let is : c.default.result ≡ nothing_chosen =
    λ i. record {
      env = unset.0 i;
      rustc = unset.1.0 i;
      cargo = unset.1.1.0 i;
      cargo_home =
          unset.1.1.1.0 i;
      host_triple = unset.1.1.1.1.0 i;
      command_line = unset.1.1.1.1.1 i;
    } in
    subst (λ (options : ResolveOptions). Answered (λ config. config) c.load_with_options.result
    (IsConfig fs machine cwd options) (IsConfigCause fs machine cwd options)) is
    (c.load_with_options.ensures fs told)
