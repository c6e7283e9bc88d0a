-- Options that choose the same overrides alone are one.
use Rattle.std.proofs.Common.{◌≡◌, ◌++◌, ◌<◌, ℕ, List, [], ◌∷◌, length, map, Result, Ok, Err, String, Global, string_bytes}
use Rattle.std.proofs.Common.{sym, ap, subst, refl, ◌∙◌, inl, inr, arith}
use Rattle.std.proofs.lemmas.List.{append-nil}
use Rattle.cc2_error.specs.Causes.{Refusal}
use Rattle.cc2_error.specs.Outcomes.{Answered}
use Rattle.cc2_error.specs.declared.error.Error.{Error}
use Rattle.cc2_base.specs.Told.{Tree}
use Rattle.cc2_base.specs.declared.machine.Machine.{Machine}
use Rattle.cc2_env.specs.CommandLine.{Override}
use Rattle.cc2_env.specs.Options.{chosen_overrides}
use Rattle.cc2_env.specs.declared.options.ResolveOptions.{ResolveOptions}
use Rattle.cargo_config2.specs.Loads.{IsConfig, IsConfigCause}
use Rattle.cargo_config2.specs.declared.config.Config.{Config}
use Rattle.cc2_cli.specs.Choices.{Choice}
use Rattle.cc2_answers.specs.Choices.{ChoosesAlone, IsConfigUnder, IsConfigUnderCause, IsWithChoice, override_of, overrides_by}
use Rattle.cc2_answers.proofs.Unchosen.{as_built, load_cause, of_built, under_cause}

-- one choice more
pub with_one : (os : List Override) (choice : Choice) (was options : ResolveOptions) → ChoosesAlone os was → IsWithChoice choice was options
    → ChoosesAlone (os ++ override_of choice ∷ []) options
with_one os choice was options h k = record {
  env = ap (λ o. o.env) k.others ∙ h.env;
  rustc = ap (λ o. o.rustc) k.others ∙ h.rustc;
  cargo = ap (λ o. o.cargo) k.others ∙ h.cargo;
  home = ap (λ o. o.cargo_home) k.others ∙ h.home;
  host = ap (λ o. o.host_triple) k.others ∙ h.host;
  overrides = k.added ∙ ap (λ all. all ++ override_of choice ∷ []) h.overrides;
}

-- less than two words choose nothing
none_left : (ws : List (String Global)) → length ws < 2 → overrides_by (map string_bytes ws) ≡ []
none_left [] h = refl
none_left (word ∷ []) h = refl
none_left (word ∷ (next ∷ ws)) h = absurd (omega (arith, h))

-- where less than two words are left, all choices are made
pub all_chosen : (os : List Override) (options : ResolveOptions) (rest : List (String Global)) → length rest < 2
    → ChoosesAlone (chosen_overrides options) options → chosen_overrides options ++ overrides_by (map string_bytes rest) ≡ os
    → ChoosesAlone os options
all_chosen os options rest few alone is =
    subst (λ (all : List Override). ChoosesAlone all options)
    (sym (append-nil (chosen_overrides options)) ∙ ap (λ xs. chosen_overrides options ++ xs) (sym (none_left rest few)) ∙ is) alone

module _ (fs : Tree) (machine : Machine) (dir : List ℕ) (os : List Override) where
  alike : (options other : ResolveOptions) → ChoosesAlone os options → ChoosesAlone os other → (refusal : Refusal)
      → IsConfigCause fs machine dir other refusal → IsConfigCause fs machine dir options refusal
  alike options other g o refusal (inl h) =
      inl (load_cause machine dir options g.env g.cargo g.home os g.overrides fs refusal
      (under_cause machine dir other o.env o.cargo o.home os o.overrides fs refusal h))
  alike options other g o refusal (inr (cells, final, unresolved)) =
      inr (
        cells,
        of_built machine dir options g.env g.cargo g.home os g.overrides fs cells
            (as_built machine dir other o.env o.cargo o.home os o.overrides fs cells final),
        unresolved,
      )

  module _ (options : ResolveOptions) (alone : ChoosesAlone os options) where
    no_cause : ((refusal : Refusal) → ¬ (IsConfigCause fs machine dir options refusal)) → (refusal : Refusal) → ¬ (IsConfigUnderCause fs machine dir os refusal)
    no_cause free refusal (other, o, h) = free refusal (alike options other alone o refusal h)

    -- a load under such options is one under the overrides alone
    pub under_options : (result : Result Config Error) → Answered (λ c. c) result (IsConfig fs machine dir options) (IsConfigCause fs machine dir options)
        → Answered (λ c. c) result (IsConfigUnder fs machine dir os) (IsConfigUnderCause fs machine dir os)
    under_options (Ok config) (is, free) = ((options, alone, is), no_cause free)
    under_options (Err e) (inl wants) = inl wants
    under_options (Err e) (inr cause) = inr (options, alone, cause)
