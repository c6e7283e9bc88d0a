use Rattle.std.proofs.Common.{map, string_bytes}
use Rattle.std.proofs.lemmas.Result.{err_from_is_err_and}
use Rattle.serde_json.specs.View.{view}
use Rattle.cc2_error.specs.Causes.{refusal_of}
use Rattle.cc2_answers.specs.Choices.{override_of}
use Rattle.cc2_answers.proofs.Shown.{ready}
use Rattle.cc2_cli.specs.Choices.{choices_of}
use Rattle.cargo_config2.specs.declared.config.Config.{Config}
use Rattle.cc2_target_answers.specs.CrateTargets.{IsTargetsOutcome}
use Rattle.cc2_target_answers.proofs.Loaded.{by_config, by_refusal}
use Rattle.cc2_target_answers.proofs.by_crate.crate_targets.Goals as goal

pub returns-in_err-config-clause-told : goal.returns-in_err-config-clause-told
returns-in_err-config-clause-told g c fs answers files programs =
    let p = err_from_is_err_and c.from_residual.result c.from_residual.ensures.1 in
    let os = map override_of (choices_of (map string_bytes c.args.choices.now)) in
    let texts = map (λ text. text.now) c.args.texts.now in
    rw (p.1, p.2)
    (by_refusal (λ (x : Config). IsTargetsOutcome fs answers x texts) fs c.args.machine.now c.args.dir.now os (refusal_of c.in_err-config.field-0.0)
    (c.in_err-config.ensures fs files))

pub returns-clause-told : goal.returns-clause-told
returns-clause-told g c fs answers files programs =
    let machine = c.args.machine.now in
    let dir = c.args.dir.now in
    let os = map override_of (choices_of (map string_bytes c.args.choices.now)) in
    let texts = map (λ text. text.now) c.args.texts.now in
    let config = c.in_ok-config.config in
    let (is, free) = c.in_ok-config.ensures fs files in
    by_config (λ (x : Config). IsTargetsOutcome fs answers x texts) fs machine dir os view config is free c.settings_of_all-found.result
    (c.settings_of_all-found.ensures.told fs answers files programs (ready fs answers machine dir os config is))
