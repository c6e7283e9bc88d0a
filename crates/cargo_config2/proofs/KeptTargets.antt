-- Settings of targets that are kept, with one more.
use Rattle.std.proofs.Common.{◌≡◌, ℕ, List, Some, option_map, sym, ap, subst, ◌∙◌, inl, inr}
use Rattle.std.specs.Prelude.{unwrap_or}
use Rattle.std.specs.BTreeMap.{get_by_text}
use Rattle.cc2_error.specs.Commands.{Command}
use Rattle.cc2_base.specs.ToldPrograms.{Answers}
use Rattle.cc2_resolved.specs.Targets.{target_in, command_text}
use Rattle.cc2_rustc.specs.ByName.{AtMostAdds}
use Rattle.cc2_rustc.proofs.Sets.{text_back}
use Rattle.cc2_target.specs.Settings.{Given}
use Rattle.cc2_resolved.specs.TargetConfigs.{TargetAnswer, shown}
use Rattle.cc2_resolved.specs.declared.target_config.TargetConfig.{TargetConfig}
use Rattle.cargo_config2.specs.Targets.{AgreesOnTargets, IsTargetAlone, Settings}

-- settings that are kept for a target are its
pub kept_said : (g : Given) (rustc : Command) (answers : Answers) (settings : Settings) (text : List ℕ) (t : TargetConfig)
    → AgreesOnTargets g rustc answers settings → get_by_text settings (command_text (target_in text)) ≡ Some t
    → IsTargetAlone g rustc answers (target_in text) (shown t)
kept_said g rustc answers settings text t agrees here =
    subst (λ (q : List ℕ). IsTargetAlone g rustc answers (target_in q) (shown t)) (text_back text)
    (agrees (command_text (target_in text)) (shown t) (ap (option_map shown) here))

-- settings of a target that are its are kept beside others that are
pub targets_more : (g : Given) (rustc : Command) (answers : Answers) (was settings : Settings) (text : List ℕ) (t : TargetConfig)
    → AtMostAdds was settings (command_text (target_in text)) t
    → IsTargetAlone g rustc answers (target_in text) (shown t)
    → AgreesOnTargets g rustc answers was → AgreesOnTargets g rustc answers settings
targets_more g rustc answers was settings text t adds is agrees name a kept =
    elim (adds name) [
      | inl same ↦ agrees name a (ap (option_map shown) (sym same) ∙ kept)
      | inr (at, here) ↦
          let known : shown t ≡ a = ap (λ o. unwrap_or o (shown t)) (sym (ap (option_map shown) here) ∙ kept) in
          subst (λ (q : List ℕ). IsTargetAlone g rustc answers (target_in q) a) (sym (at ∙ text_back text))
          (subst (λ (b : TargetAnswer). IsTargetAlone g rustc answers (target_in text) b) known is)
    ]
