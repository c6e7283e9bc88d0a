-- What the variables of a machine set by themselves.
-- Cargo Reference, Configuration, environment variables.
use Rattle.std.specs.Prelude.{◌≡◌, ◌⊎◌, ℕ, List, [], Contains, codes, Option, None, Err}
use Rattle.cc2_error.specs.Causes.{Refusal}
use Rattle.cc2_base.specs.declared.machine.Machine.{Machine}
use Rattle.cc2_value.specs.Cells.{Cell, KeyPath}
use Rattle.cc2_env.specs.Kept.{Variables, kept_of}
use Rattle.cc2_env.specs.Options.{cargo_of}
use Rattle.cc2_de.specs.ConfigRanks.{config_rank}

-- the variables of a machine that are looked at
abbrev pub AreVariables : Machine → Variables → Type 0
AreVariables machine vars = (name : List ℕ) → vars name ≡ kept_of machine.env.items name

-- nothing is at any key path
abbrev pub IsNothing : (KeyPath → Option Cell) → Type 0
IsNothing m = (p : KeyPath) → m p ≡ None

-- m is what the machine's variables make of nothing, and none that is looked at is refused
pub record IsSetBy (machine : Machine) (m : KeyPath → Option Cell) : Type 0 where
  pub vars : Variables
  pub nothing : KeyPath → Option Cell
  pub are : AreVariables machine vars
  pub none : IsNothing nothing
  pub cells : (p : KeyPath) → m p ≡ config_rank.cells vars nothing p
  pub sound : (p : KeyPath) → config_rank.refusals vars nothing p ≡ []

-- one of them is refused
pub record IsRefusedFor (machine : Machine) (refusal : Refusal) : Type 0 where
  pub vars : Variables
  pub nothing : KeyPath → Option Cell
  pub are : AreVariables machine vars
  pub none : IsNothing nothing
  pub place : KeyPath
  pub refused : Contains (config_rank.refusals vars nothing place) refusal

-- `CARGO` is refused, or another of them
abbrev pub IsVariableCause : Machine → Refusal → Type 0
IsVariableCause machine refusal =
    (cargo_of None (kept_of machine.env.items (codes "CARGO")) ≡ Err refusal) ⊎ IsRefusedFor machine refusal
