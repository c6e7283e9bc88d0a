use Rattle.std.proofs.Common.{true, false, inl, inr, ⊎_elim}
use Rattle.std.proofs.lemmas.Result.{err_from_is_err_and}
use Rattle.cc2_error.specs.Causes.{refusal_of}
use Rattle.cc2_error.specs.Commands.{command_of}
use Rattle.cc2_resolved.specs.TargetConfigs.{shown}
use Rattle.cc2_cargo_target.proofs.Artifacts.{settings_kept, settings_refused}
use Rattle.cc2_cargo_target.proofs.host_artifacts.settings_for.Goals as goal

pub returns-in_err-target-clause-settings : goal.returns-in_err-target-clause-settings
returns-in_err-target-clause-settings g c answers world =
    let p = err_from_is_err_and c.from_residual.result c.from_residual.ensures.1 in
    rw (p.1, p.2)
    (⊎_elim (λ memory. inl memory)
    (λ is. inr (settings_refused c.args.sources.settings.now c.args.sources.machine.now c.args.dir.now (command_of c.args.rustc.now) answers
    c.args.given true c.if-given.true c.args.host.now (refusal_of c.in_err-target.field-0.0) is)) (c.in_err-target.ensures.target answers world))

pub returns-in_err-target-2-clause-settings : goal.returns-in_err-target-2-clause-settings
returns-in_err-target-2-clause-settings g c answers world =
    let p = err_from_is_err_and c.from_residual-in_err-target-2.result c.from_residual-in_err-target-2.ensures.1 in
    rw (p.1, p.2)
    (⊎_elim (λ memory. inl memory)
    (λ is. inr (settings_refused c.args.sources.settings.now c.args.sources.machine.now c.args.dir.now (command_of c.args.rustc.now) answers
    c.args.given false c.if-given.false c.args.host.now (refusal_of c.in_err-target-2.field-0.0) is)) (c.in_err-target-2.ensures.target answers world))

pub returns-in_ok-target-clause-settings : goal.returns-in_ok-target-clause-settings
returns-in_ok-target-clause-settings g c answers world =
    settings_kept c.args.sources.settings.now c.args.sources.machine.now c.args.dir.now (command_of c.args.rustc.now) answers
    c.args.given true c.if-given.true c.args.host.now (shown c.in_ok-target.target) (shown c.linker_alone.result)
    (c.in_ok-target.ensures.target answers world) c.linker_alone.ensures

pub returns-in_ok-target-2-clause-settings : goal.returns-in_ok-target-2-clause-settings
returns-in_ok-target-2-clause-settings g c answers world =
    settings_kept c.args.sources.settings.now c.args.sources.machine.now c.args.dir.now (command_of c.args.rustc.now) answers
    c.args.given false c.if-given.false c.args.host.now (shown c.in_ok-target-2.target) (shown c.without_runner.result)
    (c.in_ok-target-2.ensures.target answers world) c.without_runner.ensures
