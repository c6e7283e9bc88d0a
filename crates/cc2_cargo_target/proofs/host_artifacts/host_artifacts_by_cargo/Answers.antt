use Rattle.std.proofs.Common.{Ok, map, string_bytes, subst}
use Rattle.cc2_error.specs.Commands.{command_of}
use Rattle.cc2_resolved.specs.TargetConfigs.{shown}
use Rattle.cc2_cargo_target.proofs.Artifacts.{no_refusal, of_settings}
use Rattle.cc2_cargo_target.specs.HostArtifacts.{AreSettings}
use Rattle.cc2_cargo_target.proofs.host_artifacts.host_artifacts_by_cargo.Goals as goal

pub returns-clause-target : goal.returns-clause-target
returns-clause-target g c answers world =
    let settings = c.args.sources.settings.now in
    let machine = c.args.sources.machine.now in
    let rustc = command_of c.args.rustc.now in
    let has = shown c.in_ok-settings.settings in
    of_settings settings machine c.args.dir.now rustc answers (map (λ text. text.now) c.args.texts.now)
    c.in_ok-given.given (string_bytes c.in_ok-host.host) has c.in_ok-given.ensures (c.in_ok-host.ensures.told answers world)
    (subst (λ host. AreSettings settings machine c.args.dir.now rustc answers c.in_ok-given.given host (Ok has)) c.as_str.ensures.value
    (c.in_ok-settings.ensures.settings answers ((c.in_ok-host.ensures.same answers).0 world)))

pub returns-clause-exact : goal.returns-clause-exact
returns-clause-exact g c answers world =
    no_refusal c.args.sources.settings.now c.args.sources.machine.now c.args.dir.now (command_of c.args.rustc.now) answers
    (map (λ text. text.now) c.args.texts.now) (Ok (record { host = c.in_ok-host.host; settings = c.in_ok-settings.settings })) (returns-clause-target g c answers world)
