-- Settings of targets, copied name by name.
use Rattle.std.proofs.Common.{◌≡◌, ℕ, List, [], ◌∷◌, Option, Some, None, option_map, codes, is_some, true≢false, Result, Ok, Err, refl, sym, ap, subst}
use Rattle.std.specs.BTreeMap.{get_by_text}
use Rattle.cc2_error.specs.Causes.{Refusal}
use Rattle.cc2_error.specs.Outcomes.{Answered}
use Rattle.cc2_error.specs.declared.error.Error.{Error}
use Rattle.cc2_value.specs.Cells.{field, name, KeyPath}
use Rattle.cc2_resolved.specs.Copies.{IsSame}
use Rattle.cc2_resolved.specs.Rows.{entry_shown, names_at, option_shown, rows_at}
use Rattle.cc2_resolved.specs.TargetConfigs.{TargetAnswer, shown, target_rows}
use Rattle.cc2_resolved.specs.declared.target_config.TargetConfig.{TargetConfig}
use Rattle.cargo_config2.specs.Targets.{Settings, kept_settings}

-- what shows the same at each key path shows the same
pub same_rows : (a b : TargetConfig) → ((p : KeyPath) → rows_at target_rows a p ≡ rows_at target_rows b p) → shown a ≡ shown b
same_rows a b h = λ i. record {
  linker = h (field (codes "linker") ∷ []) i;
  runner = h (field (codes "runner") ∷ []) i;
  rustflags = h (field (codes "rustflags") ∷ []) i;
  rustdocflags = h (field (codes "rustdocflags") ∷ []) i;
}

fields_only : (a b : TargetConfig)
    → ((p : KeyPath) → entry_shown target_rows a p ≡ entry_shown target_rows b p) → (p : KeyPath)
    → rows_at target_rows a p ≡ rows_at target_rows b p
fields_only a b h [] = refl
fields_only a b h (field k ∷ p) = h (field k ∷ p)
fields_only a b h (name k ∷ p) = refl

same_shown : (a b : Option TargetConfig)
    → ((p : KeyPath) → option_shown (entry_shown target_rows) a p ≡ option_shown (entry_shown target_rows) b p)
    → option_map shown a ≡ option_map shown b
same_shown None None h = refl
same_shown None (Some b) h = absurd (true≢false (sym (ap is_some (h []))))
same_shown (Some a) None h = absurd (true≢false (ap is_some (h [])))
same_shown (Some a) (Some b) h = ap Some (same_rows a b (fields_only a b h))

pub same_settings : (was copies : Settings) → IsSame (names_at (entry_shown target_rows)) was copies → (k : List ℕ)
    → kept_settings copies k ≡ kept_settings was k
same_settings was copies h k = same_shown (get_by_text copies k) (get_by_text was k) (λ p. h.same (name k ∷ p))

-- what is answered of all settings is what is answered
pub whole_setting : (r : Result TargetConfig Error) (P : TargetAnswer → Type 0) (Q : Refusal → Type 0)
    → Answered shown r (λ v. (a : TargetAnswer) × P a × (v ≡ a)) Q → Answered shown r P Q
whole_setting (Ok t) P Q h = (subst P (sym h.0.2) h.0.1, h.1)
whole_setting (Err e) P Q h = h
