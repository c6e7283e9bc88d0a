-- What is read at a key of `[target]`: its linker, its runner and its flags.
-- Cargo Reference, Configuration, `[target]`.
use Rattle.std.specs.Prelude.{◌≡◌, ◌⊎◌, ℕ, if◌then◌else◌, List, [], ◌∷◌, ◌++◌, codes, Option, None, Result, Ok}
use Rattle.cc2_error.specs.Causes.{Refusal}
use Rattle.cc2_base.specs.declared.machine.Machine.{Machine}
use Rattle.cc2_value.specs.Cells.{Word}
use Rattle.cc2_cargo.specs.Raw.{Path, RawCell}
use Rattle.cc2_cargo_settings.specs.Found.{Lookup, is_found, lookup_at}
use Rattle.cc2_cargo_settings.specs.Commands.{command_at}
use Rattle.cc2_cargo_settings.specs.Values.{list_at, text_at}
use Rattle.cc2_cargo_settings.specs.Variables.{unset, given}

-- the path of a setting at a key
abbrev pub key_path : List ℕ → List ℕ → Path
key_path k what = codes "target" ∷ (k ∷ (what ∷ []))

-- the variable of a setting at a key: Cargo takes both as they are written
abbrev pub variable_at_key : List ℕ → List ℕ → List ℕ
variable_at_key k what = codes "CARGO_TARGET_" ++ (k ++ (95 ∷ what))

-- what is read, where files or the command line set something
abbrev pub if_found : {A : Type 0} → Lookup → Result (Option A) Refusal → Result (Option A) Refusal
if_found place read = if is_found place then read else Ok None

module _ (look : Path → Option RawCell) (machine : Machine) where
  abbrev pub linker_at : List ℕ → Result (Option Word) Refusal
  linker_at k =
      let path = key_path k (codes "linker") in
      if_found (lookup_at look path) (text_at look machine path (variable_at_key k (codes "linker")))

  abbrev pub runner_at : List ℕ → Result (Option (List Word)) Refusal
  runner_at k =
      let path = key_path k (codes "runner") in
      if_found (lookup_at look path) (command_at look machine path (variable_at_key k (codes "runner")))

  abbrev pub flags_at : List ℕ → Result (Option (List Word)) Refusal
  flags_at k =
      let path = key_path k (codes "rustflags") in
      if_found (lookup_at look path) (list_at look machine path (variable_at_key k (codes "rustflags")))

-- a name by which a setting is read as by the wanted one: that name, or another one where neither is set
abbrev pub IsNameFor : Machine → List ℕ → List ℕ → Type 0
IsNameFor machine wanted name = (name ≡ wanted) ⊎ ((given machine name ≡ unset) × (given machine wanted ≡ unset))
