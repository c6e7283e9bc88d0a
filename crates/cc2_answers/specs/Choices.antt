-- Configurations under the overrides of words alone, and what is answered over one.
use Rattle.std.specs.Prelude.{◌≡◌, ◌⊎◌, ℕ, List, [], ◌∷◌, ◌++◌, map, None, Result, Err}
use Rattle.cc2_error.specs.Causes.{Refusal, plain, memory}
use Rattle.cc2_base.specs.Told.{Tree}
use Rattle.cc2_base.specs.declared.machine.Machine.{Machine}
use Rattle.cc2_env.specs.CommandLine.{Override, from_text, from_file}
use Rattle.cc2_env.specs.Options.{chosen_overrides}
use Rattle.cc2_env.specs.declared.options.ResolveOptions.{ResolveOptions}
use Rattle.cargo_config2.specs.Loads.{IsConfig, IsConfigCause}
use Rattle.cargo_config2.specs.declared.config.Config.{Config}
use Rattle.cc2_cli.specs.Choices.{Choice, config, config_file, choices_of}

abbrev pub override_of : Choice → Override
override_of (config text) = from_text text
override_of (config_file path) = from_file path

-- the overrides of words: pairs of an option and its value
abbrev pub overrides_by : List (List ℕ) → List Override
overrides_by words = map override_of (choices_of words)

-- nothing is chosen but these overrides
pub record ChoosesAlone (os : List Override) (options : ResolveOptions) : Type 0 where
  pub env : options.env ≡ None
  pub rustc : options.rustc ≡ None
  pub cargo : options.cargo ≡ None
  pub home : options.cargo_home ≡ None
  pub host : options.host_triple ≡ None
  pub overrides : chosen_overrides options ≡ os

-- one choice more, after the others; all else is the same
pub record IsWithChoice (choice : Choice) (was options : ResolveOptions) : Type 0 where
  pub added : chosen_overrides options ≡ chosen_overrides was ++ override_of choice ∷ []
  pub others : options ≡ record was { command_line = options.command_line }

module _ (fs : Tree) (machine : Machine) (dir : List ℕ) (os : List Override) where
  -- c is the configuration of the directory under these overrides alone
  abbrev pub IsConfigUnder : Config → Type 0
  IsConfigUnder c = (options : ResolveOptions) × ChoosesAlone os options × IsConfig fs machine dir options c

  -- why there is none
  abbrev pub IsConfigUnderCause : Refusal → Type 0
  IsConfigUnderCause refusal = (options : ResolveOptions) × ChoosesAlone os options × IsConfigCause fs machine dir options refusal

  -- What a question comes to: what it comes to by a configuration that the load from the directory gives, where there is no
  -- cause for which the load is refused; or a cause that applies; or out of memory.
  abbrev pub IsOverLoad : {A : Type 0} → (Config → Result A Refusal → Type 0) → Result A Refusal → Type 0
  IsOverLoad Is outcome =
      ((c : Config) × IsConfigUnder c × ((refusal : Refusal) → ¬ (IsConfigUnderCause refusal)) × Is c outcome)
      ⊎ (((refusal : Refusal) × IsConfigUnderCause refusal × (outcome ≡ Err refusal))
      ⊎ (outcome ≡ Err (plain memory)))
