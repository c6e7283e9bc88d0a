-- A load under the variables of an environment, and then under the overrides of a command line.
use Rattle.std.specs.Prelude.{◌⊎◌, ℕ, List, [], ◌∷◌, Option, Result}
use Rattle.cc2_error.specs.Causes.{Refusal}
use Rattle.cc2_base.specs.Told.{Tree}
use Rattle.cc2_value.specs.Cells.{Cell, KeyPath}
use Rattle.cc2_env.specs.CommandLine.{Override}
use Rattle.cc2_env.specs.Kept.{Variables}
use Rattle.cc2_de.specs.LoadUnder.{IsLoadUnder, IsLoadUnderCause}
use Rattle.cc2_de.specs.Overrides.{IsCauseFrom, IsOver, IsUnmergedOver}

module _ (fs : Tree) (cwd : List ℕ) (home : Result (Option (List ℕ)) Refusal) (vars : Variables) where
  -- m is what the overrides make of the variables' map of the walked files; without overrides it is that map
  abbrev pub IsLoadOver : List Override → (KeyPath → Option Cell) → Type 0
  IsLoadOver [] m = IsLoadUnder fs cwd home vars m
  IsLoadOver (o ∷ os) m =
      (below : KeyPath → Option Cell) × IsLoadUnder fs cwd home vars below × IsOver fs cwd (o ∷ os) below m

  -- the home is refused, a file is or doesn't merge, or a variable is; or an override is none; or they don't
  -- merge over that map
  abbrev pub IsLoadOverCause : List Override → Refusal → Type 0
  IsLoadOverCause [] refusal = IsLoadUnderCause fs cwd home vars refusal
  IsLoadOverCause (o ∷ os) refusal =
      IsLoadUnderCause fs cwd home vars refusal
      ⊎ (IsCauseFrom fs cwd 1 (o ∷ os) refusal
      ⊎ ((below : KeyPath → Option Cell) × IsLoadUnder fs cwd home vars below × IsUnmergedOver fs cwd (o ∷ os) below refusal))
