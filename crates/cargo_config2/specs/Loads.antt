-- What a load gives, and why it may be refused.
use Rattle.std.specs.Prelude.{◌≡◌, ◌⊎◌, ℕ, List, Option, None, string_bytes}
use Rattle.cc2_error.specs.Causes.{Refusal}
use Rattle.cc2_base.specs.Told.{Tree}
use Rattle.cc2_base.specs.declared.machine.Machine.{Machine}
use Rattle.cc2_value.specs.Cells.{KeyPath, Cell}
use Rattle.cc2_env.specs.Options.{chosen_overrides, chosen_variables, IsContext}
use Rattle.cc2_env.specs.declared.options.ResolveOptions.{ResolveOptions}
use Rattle.cc2_de.specs.Configured.{chosen_home, IsConfiguredCause}
use Rattle.cc2_de.specs.LoadOver.{IsLoadOver}
use Rattle.cargo_config2.specs.Resolution.{IsResolutionOfCells, IsUnresolvedCell}
use Rattle.cc2_rustc.specs.Kept.{IsNothingKept}
use Rattle.cargo_config2.specs.Kept.{IsNoTargetKept}
use Rattle.cargo_config2.specs.declared.config.Config.{Config}

abbrev pub nothing_chosen : ResolveOptions
nothing_chosen = record { env = None; rustc = None; cargo = None; cargo_home = None; host_triple = None; command_line = None }

module _ (fs : Tree) (machine : Machine) (cwd : List ℕ) (options : ResolveOptions) where
  -- m is what the variables, and then the overrides, make of the pointwise map of the walked files
  abbrev pub IsFinal : (KeyPath → Option Cell) → Type 0
  IsFinal m = IsLoadOver fs cwd (chosen_home options cwd machine) (chosen_variables options machine) (chosen_overrides options) m

  -- c is what resolution makes of it, and keeps the context; nothing is kept of queries
  pub record IsConfig (c : Config) : Type 0 where
    pub cells : KeyPath → Option Cell
    pub final : IsFinal cells
    pub resolution : IsResolutionOfCells cwd cells c
    pub directory : string_bytes c.loaded.context.current_dir ≡ cwd
    pub context : IsContext options c.loaded.context.current_dir machine c.loaded.context
    pub nothing_kept : IsNothingKept c.kept
    pub no_targets : IsNoTargetKept c

  -- a setting of it is refused
  abbrev pub IsResolutionCause : Refusal → Type 0
  IsResolutionCause refusal = (cells : KeyPath → Option Cell) × IsFinal cells × IsUnresolvedCell cwd cells refusal

  -- `CARGO` or the home is refused, a file is or doesn't merge, a variable is, an override is or doesn't merge, or a
  -- setting is
  abbrev pub IsConfigCause : Refusal → Type 0
  IsConfigCause refusal = IsConfiguredCause fs machine cwd options refusal ⊎ IsResolutionCause refusal
