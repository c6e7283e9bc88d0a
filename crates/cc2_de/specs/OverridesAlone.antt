-- What the overrides of a command line set by themselves.
-- Cargo Reference, Configuration, command-line overrides.
use Rattle.std.specs.Prelude.{◌≡◌, ◌⊎◌, ℕ, List, Option, Err}
use Rattle.cc2_error.specs.Causes.{Refusal}
use Rattle.cc2_base.specs.Told.{Tree}
use Rattle.cc2_base.specs.declared.machine.Machine.{Machine}
use Rattle.cc2_value.specs.Cells.{Cell, KeyPath}
use Rattle.cc2_env.specs.CommandLine.{Override}
use Rattle.cc2_env.specs.Options.{chosen_cargo, chosen_overrides}
use Rattle.cc2_env.specs.declared.options.ResolveOptions.{ResolveOptions}
use Rattle.cc2_de.specs.Overrides.{IsOver, IsOverCause}
use Rattle.cc2_de.specs.VariablesAlone.{IsNothing}

module _ (fs : Tree) where
  -- m is what the overrides make of nothing
  pub record IsSetOver (dir : List ℕ) (os : List Override) (m : KeyPath → Option Cell) : Type 0 where
    pub nothing : KeyPath → Option Cell
    pub none : IsNothing nothing
    pub over : IsOver fs dir os nothing m

  -- one of them is refused, or they don't merge
  pub record IsRefusedOver (dir : List ℕ) (os : List Override) (refusal : Refusal) : Type 0 where
    pub nothing : KeyPath → Option Cell
    pub none : IsNothing nothing
    pub cause : IsOverCause fs dir os nothing refusal

  -- `CARGO` is refused, or the overrides are
  abbrev pub IsOptionCause : Machine → List ℕ → ResolveOptions → Refusal → Type 0
  IsOptionCause machine dir options refusal = (chosen_cargo options machine ≡ Err refusal) ⊎ IsRefusedOver dir (chosen_overrides options) refusal
