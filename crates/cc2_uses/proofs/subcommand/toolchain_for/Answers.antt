use Rattle.std.proofs.Common.{string_bytes}
use Rattle.cargo_config2.specs.ShownTargets.{target_at}
use Rattle.cargo_config2.specs.TargetTexts.{target_of}
use Rattle.cargo_config2.proofs.Exits.{known_one}
use Rattle.cargo_config2.proofs.Fresh.{fresh_agrees}
use Rattle.cc2_uses.proofs.Same.{if_ok}
use Rattle.cc2_uses.specs.Toolchains.{IsToolchain, IsToolchainOf}
use Rattle.cc2_uses.proofs.subcommand.toolchain_for.Goals as goal

pub returns-clause-told : goal.returns-clause-told
returns-clause-told g c fs answers files programs =
    let config = c.in_ok-config.config in
    let target = target_at c.in_ok-target.target in
    let machine = c.args.machine.now in
    let loaded = (c.in_ok-config.ensures fs files).0 in
    if_ok c.toolchain_by.result (IsToolchain fs answers config target)
    (IsToolchainOf fs answers machine (string_bytes machine.current_dir) c.args.target.now)
    (λ made is. (config, target, loaded, known_one (target_of c.args.target.now) _ _ c.in_ok-target.ensures.target, is))
    (c.toolchain_by.ensures.told fs answers files programs (fresh_agrees fs answers config
    loaded.nothing_kept loaded.no_targets))
