use Rattle.std.proofs.Common.{◌⊎◌, map, ap, sym, subst, ◌∙◌}
use Rattle.cc2_error.proofs.Refused.{answered_exit}
use Rattle.cc2_error.specs.Causes.{Refusal, refusal_of}
use Rattle.cc2_error.specs.Outcomes.{IsWantOfMemory}
use Rattle.cc2_rustc.specs.Asking.{entries_by_text, shown_asking, AreAsking}
use Rattle.cc2_rustc.specs.Keys.{is_cfg}
use Rattle.cc2_env.specs.Options.{variables_of}
use Rattle.cc2_resolved.specs.ShownTargets.{target_at}
use Rattle.cc2_target.specs.Asked.{IsAnswer, IsCause}
use Rattle.cc2_target.specs.Given.{given_in}
use Rattle.cc2_target.specs.Settings.{IsSettings, IsUnresolved}
use Rattle.cc2_resolved.specs.TargetConfigs.{shown}
use Rattle.cc2_target.specs.Variables.{AreRead, IsReadCause}
use Rattle.cc2_target.proofs.Answering.{choice_cause, list_cause, no_cause, variable_cause}
use Rattle.cc2_rustc.specs.CfgSets.{set_said}
use Rattle.cc2_rustc.specs.Rustc.{is_there, rustc_command}
use Rattle.cc2_rustc.specs.RustcParts.{settings_of}
use Rattle.cargo_config2.proofs.target_query.settings.Goals as goal

pub returns-in_err-variables-clause-answer : goal.returns-in_err-variables-clause-answer
returns-in_err-variables-clause-answer g c fs answers files programs h =
    let g' = given_in c.args.given.now in
    let triple = (target_at c.args.target.now).triple in
    let said = set_said (rustc_command (is_there fs) (settings_of c.args.parts.now)) answers
    (target_at c.args.target.now) in
    answered_exit shown c.from_residual-in_err-variables.result (IsAnswer g' triple said) (IsCause g' triple said)
    c.in_err-variables.field-0.0 c.from_residual-in_err-variables.ensures.1
    (variable_cause g' triple said _
    (subst (λ t. IsReadCause (variables_of c.args.given.now.context.now) t c.in_err-variables.field-0.0)
    c.triple-2.ensures
    c.in_err-variables.ensures.refused))

pub returns-in_err-trues-clause-answer : goal.returns-in_err-trues-clause-answer
returns-in_err-trues-clause-answer g c fs answers files programs h =
    let g' = given_in c.args.given.now in
    let triple = (target_at c.args.target.now).triple in
    let said = set_said (rustc_command (is_there fs) (settings_of c.args.parts.now)) answers
    (target_at c.args.target.now) in
    let entries = entries_by_text c.args.given.now.tables.now in
    let asking = subst (λ ks. AreAsking entries (map shown_asking ks)) (sym c.as_slice.ensures.value)
    c.in_ok-asking.ensures.0 in
    answered_exit shown c.from_residual-in_err-trues.result (IsAnswer g' triple said) (IsCause g' triple said)
    c.in_err-trues.field-0.0 c.from_residual-in_err-trues.ensures.1
    (list_cause g' triple said _ (c.in_err-trues.ensures.told fs answers files programs h entries asking))

pub returns-in_err-trues-clause-none_unasked : goal.returns-in_err-trues-clause-none_unasked
returns-in_err-trues-clause-none_unasked g c =
    let entries = entries_by_text c.args.given.now.tables.now in
    let asking = subst (λ ks. AreAsking entries (map shown_asking ks)) (sym c.as_slice.ensures.value)
    c.in_ok-asking.ensures.0 in
    c.in_err-trues.ensures.none_unasked entries asking

pub returns-in_err-settings-clause-answer : goal.returns-in_err-settings-clause-answer
returns-in_err-settings-clause-answer g c fs answers files programs h =
    let g' = given_in c.args.given.now in
    let triple = (target_at c.args.target.now).triple in
    let said = set_said (rustc_command (is_there fs) (settings_of c.args.parts.now)) answers
    (target_at c.args.target.now) in
    let entries = entries_by_text c.args.given.now.tables.now in
    let asking = subst (λ ks. AreAsking entries (map shown_asking ks)) (sym c.as_slice.ensures.value)
    c.in_ok-asking.ensures.0 in
    let trues = map (λ t. t.now) c.in_ok-trues.trues.items in
    let told = c.in_ok-trues.ensures.told fs answers files programs h entries asking in
    let read : AreRead g'.vars triple c.in_ok-variables.variables =
    subst (λ t. AreRead g'.vars t c.in_ok-variables.variables) c.triple-2.ensures c.in_ok-variables.ensures.ok in
    let settings = c.in_err-settings.ensures
    (subst (λ t. AreRead g'.vars t c.in_ok-variables.variables) (sym c.triple-3.ensures) read) in
    answered_exit shown c.from_residual-in_err-settings.result (IsAnswer g' triple said) (IsCause g' triple said)
    c.in_err-settings.field-0.0 c.from_residual-in_err-settings.ensures.1
    (choice_cause g' triple said _ trues told.0
    (subst (λ t. IsWantOfMemory c.in_err-settings.field-0.0 ⊎ IsUnresolved g' t trues
    (refusal_of c.in_err-settings.field-0.0))
    c.triple-3.ensures
    (subst (λ ts. IsWantOfMemory c.in_err-settings.field-0.0
    ⊎ IsUnresolved g' c.triple-3.result.now (map (λ t. t.now) ts) (refusal_of c.in_err-settings.field-0.0))
    c.as_slice-2.ensures.value settings)))

pub returns-in_err-settings-clause-none_unasked : goal.returns-in_err-settings-clause-none_unasked
returns-in_err-settings-clause-none_unasked g c =
    let entries = entries_by_text c.args.given.now.tables.now in
    let asking = subst (λ ks. AreAsking entries (map shown_asking ks)) (sym c.as_slice.ensures.value)
    c.in_ok-asking.ensures.0 in
    c.in_ok-trues.ensures.none_unasked entries asking

pub returns-clause-answer : goal.returns-clause-answer
returns-clause-answer g c fs answers files programs h =
    let g' = given_in c.args.given.now in
    let triple = (target_at c.args.target.now).triple in
    let said = set_said (rustc_command (is_there fs) (settings_of c.args.parts.now)) answers
    (target_at c.args.target.now) in
    let entries = entries_by_text c.args.given.now.tables.now in
    let asking = subst (λ ks. AreAsking entries (map shown_asking ks)) (sym c.as_slice.ensures.value)
    c.in_ok-asking.ensures.0 in
    let trues = map (λ t. t.now) c.in_ok-trues.trues.items in
    let told = c.in_ok-trues.ensures.told fs answers files programs h entries asking in
    let read : AreRead g'.vars triple c.in_ok-variables.variables =
    subst (λ t. AreRead g'.vars t c.in_ok-variables.variables) c.triple-2.ensures c.in_ok-variables.ensures.ok in
    let settings = c.in_ok-settings.ensures
    (subst (λ t. AreRead g'.vars t c.in_ok-variables.variables) (sym c.triple-3.ensures) read) in
    let (are, rooted) = subst (λ t. IsSettings g' t trues (shown c.in_ok-settings.field-0)
    × ((refusal : Refusal) → ¬ (IsUnresolved g' t trues refusal))) c.triple-3.ensures
    (subst (λ ts. IsSettings g' c.triple-3.result.now (map (λ t. t.now) ts) (shown c.in_ok-settings.field-0)
    × ((refusal : Refusal) → ¬ (IsUnresolved g' c.triple-3.result.now (map (λ t. t.now) ts) refusal)))
    c.as_slice-2.ensures.value
    settings) in (
      (trues, told.0, are),
      no_cause g' triple said c.in_ok-variables.variables trues
          (ap is_cfg (sym c.triple.ensures) ∙ c.in_ok-judge_triple.ensures.judged)
          c.in_ok-asking.ensures.1 read told.0 told.1 rooted,
    )

pub returns-clause-used : goal.returns-clause-used
returns-clause-used g c =
    let entries = entries_by_text c.args.given.now.tables.now in
    let asking = subst (λ ks. AreAsking entries (map shown_asking ks)) (sym c.as_slice.ensures.value)
    c.in_ok-asking.ensures.0 in
    c.in_ok-trues.ensures.used entries asking

pub returns-clause-none_unasked : goal.returns-clause-none_unasked
returns-clause-none_unasked g c =
    let entries = entries_by_text c.args.given.now.tables.now in
    let asking = subst (λ ks. AreAsking entries (map shown_asking ks)) (sym c.as_slice.ensures.value)
    c.in_ok-asking.ensures.0 in
    c.in_ok-trues.ensures.none_unasked entries asking
