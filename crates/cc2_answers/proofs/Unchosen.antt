-- A load for which nothing was chosen but overrides is that of the machine's own variables and home under them.
use Rattle.std.proofs.Common.{◌≡◌, ℕ, List, codes, Option, None, Result, Ok, Err, sym, ap, subst, option_map, string_bytes, ◌∙◌, inl, inr}
use Rattle.cc2_error.specs.Causes.{Refusal, refusal_of}
use Rattle.cc2_base.specs.Homes.{cargo_home_of}
use Rattle.cc2_error.specs.Outcomes.{Answered}
use Rattle.cc2_base.specs.Told.{Tree}
use Rattle.cc2_base.specs.declared.machine.Machine.{Machine}
use Rattle.cc2_error.specs.declared.error.Error.{Error}
use Rattle.cc2_value.specs.Cells.{Cell, KeyPath}
use Rattle.cc2_env.specs.Kept.{Variables, kept_of, variables_in}
use Rattle.cc2_env.specs.CommandLine.{Override}
use Rattle.cc2_env.specs.Options.{cargo_of, chosen_cargo, chosen_overrides, chosen_variables, home_text, variables_or}
use Rattle.cc2_env.specs.declared.options.ResolveOptions.{ResolveOptions}
use Rattle.cc2_de.specs.Config.{config_at}
use Rattle.cc2_de.specs.Configured.{chosen_home, home_or, IsConfigured, IsConfiguredCause}
use Rattle.cc2_de.specs.LoadOver.{IsLoadOver, IsLoadOverCause}
use Rattle.cc2_de.specs.declared.configured.Configured.{Configured}
use Rattle.cargo_config2.specs.Loads.{IsFinal}
use Rattle.cc2_answers.specs.Environments.{machine_variables, IsBuilt, IsBuiltCause}

-- what options say by which nothing was chosen but overrides
module _ (machine : Machine) (dir : List ℕ) (options : ResolveOptions) (env : options.env ≡ None) (cargo : options.cargo ≡ None) (home : options.cargo_home ≡ None)
    (os : List Override) (line : chosen_overrides options ≡ os) where
  variables_unchosen : chosen_variables options machine ≡ machine_variables machine
  variables_unchosen = ap (λ given. λ (name : List ℕ). variables_or (option_map variables_in given) (kept_of machine.env.items) name) env

  home_unchosen : chosen_home options dir machine ≡ cargo_home_of dir machine
  home_unchosen = ap (λ chosen. home_or (home_text chosen) (cargo_home_of dir machine)) home

  cargo_unchosen : chosen_cargo options machine ≡ cargo_of None (machine_variables machine (codes "CARGO"))
  cargo_unchosen =
      ap (λ program. cargo_of (option_map string_bytes program) (chosen_variables options machine (codes "CARGO"))) cargo
      ∙ ap (λ (vars : Variables). cargo_of None (vars (codes "CARGO"))) variables_unchosen

  module _ (fs : Tree) where
    -- the final map is the map under the variables and the overrides, and the other way round
    pub as_built : (m : KeyPath → Option Cell) → IsFinal fs machine dir options m → IsBuilt fs machine dir os m
    as_built m h =
        subst (λ found. IsLoadOver fs dir found (machine_variables machine) os m) home_unchosen
        (subst (λ (vars : Variables). IsLoadOver fs dir (chosen_home options dir machine) vars os m) variables_unchosen
        (subst (λ (all : List Override). IsLoadOver fs dir (chosen_home options dir machine) (chosen_variables options machine) all m) line h))

    pub of_built : (m : KeyPath → Option Cell) → IsBuilt fs machine dir os m → IsFinal fs machine dir options m
    of_built m h =
        subst (λ (all : List Override). IsLoadOver fs dir (chosen_home options dir machine) (chosen_variables options machine) all m) (sym line)
        (subst (λ (vars : Variables). IsLoadOver fs dir (chosen_home options dir machine) vars os m) (sym variables_unchosen)
        (subst (λ found. IsLoadOver fs dir found (machine_variables machine) os m) (sym home_unchosen) h))

    as_under : (refusal : Refusal) → IsLoadOverCause fs dir (chosen_home options dir machine) (chosen_variables options machine) (chosen_overrides options) refusal
        → IsLoadOverCause fs dir (cargo_home_of dir machine) (machine_variables machine) os refusal
    as_under refusal h =
        subst (λ found. IsLoadOverCause fs dir found (machine_variables machine) os refusal) home_unchosen
        (subst (λ (vars : Variables). IsLoadOverCause fs dir (chosen_home options dir machine) vars os refusal) variables_unchosen
        (subst (λ (all : List Override). IsLoadOverCause fs dir (chosen_home options dir machine) (chosen_variables options machine) all refusal) line h))

    of_under : (refusal : Refusal) → IsLoadOverCause fs dir (cargo_home_of dir machine) (machine_variables machine) os refusal
        → IsLoadOverCause fs dir (chosen_home options dir machine) (chosen_variables options machine) (chosen_overrides options) refusal
    of_under refusal h =
        subst (λ (all : List Override). IsLoadOverCause fs dir (chosen_home options dir machine) (chosen_variables options machine) all refusal) (sym line)
        (subst (λ (vars : Variables). IsLoadOverCause fs dir (chosen_home options dir machine) vars os refusal) (sym variables_unchosen)
        (subst (λ found. IsLoadOverCause fs dir found (machine_variables machine) os refusal) (sym home_unchosen) h))

    -- a cause of the load is one of a load under the variables and the overrides, and the other way round
    pub under_cause : (refusal : Refusal) → IsConfiguredCause fs machine dir options refusal → IsBuiltCause fs machine dir os refusal
    under_cause refusal (inl h) = inl (sym cargo_unchosen ∙ h)
    under_cause refusal (inr h) = inr (as_under refusal h)

    pub load_cause : (refusal : Refusal) → IsBuiltCause fs machine dir os refusal → IsConfiguredCause fs machine dir options refusal
    load_cause refusal (inl h) = inl (cargo_unchosen ∙ h)
    load_cause refusal (inr h) = inr (of_under refusal h)

    -- a load under the options is one under the variables and the overrides
    pub built_answer : (result : Result Configured Error) → Answered (λ c. c) result (IsConfigured fs machine dir options) (IsConfiguredCause fs machine dir options)
        → Answered (λ c. config_at c.config) result (IsBuilt fs machine dir os) (IsBuiltCause fs machine dir os)
    built_answer (Ok configured) h = (as_built (config_at configured.config) h.0.config, λ refusal cause. h.1 refusal (load_cause refusal cause))
    built_answer (Err error) (inl wants) = inl wants
    built_answer (Err error) (inr cause) = inr (under_cause (refusal_of error) cause)
