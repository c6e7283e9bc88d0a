-- A load under the variables of an environment.
use Rattle.std.specs.Prelude.{◌≡◌, ◌⊎◌, ℕ, List, [], Contains, Option, Result}
use Rattle.cc2_error.specs.Causes.{Refusal}
use Rattle.cc2_base.specs.Told.{Tree}
use Rattle.cc2_value.specs.Cells.{Cell, KeyPath}
use Rattle.cc2_env.specs.Kept.{Variables}
use Rattle.cc2_de.specs.ConfigRanks.{config_rank}
use Rattle.cc2_de.specs.LoadFrom.{IsLoadFrom, IsLoadFromCause}

module _ (fs : Tree) (cwd : List ℕ) (home : Result (Option (List ℕ)) Refusal) (vars : Variables) where
  -- m is what the variables make of the pointwise map of the walked files, and none that is looked at is
  -- refused
  abbrev pub IsLoadUnder : (KeyPath → Option Cell) → Type 0
  IsLoadUnder m =
      (files : KeyPath → Option Cell) × IsLoadFrom fs cwd home files × ((p : KeyPath) → m p ≡ config_rank.cells vars files p)
      × ((p : KeyPath) → config_rank.refusals vars files p ≡ [])

  -- the walked files have a map, and a variable that is looked at is refused
  abbrev pub IsVariableCause : Refusal → Type 0
  IsVariableCause refusal = (files : KeyPath → Option Cell) × IsLoadFrom fs cwd home files × ((p : KeyPath) × Contains (config_rank.refusals vars files p) refusal)

  -- the home is refused, a file is or doesn't merge, or a variable is
  abbrev pub IsLoadUnderCause : Refusal → Type 0
  IsLoadUnderCause refusal = IsLoadFromCause fs cwd home refusal ⊎ IsVariableCause refusal
