-- The command for rustc: what was chosen, else the wrappers before the program.
-- Cargo Reference, Configuration, `build.rustc`, `build.rustc-wrapper`, `build.rustc-workspace-wrapper`.
use Rattle.std.specs.Prelude.{ℕ, Bool, is_some, if◌then◌else◌, List, [], ◌∷◌, ◌++◌, flat_map, codes, Option, Some, None, unwrap_or}
use Rattle.std.specs.Option.{option_to_list}
use Rattle.cc2_error.specs.Commands.{Command, bare_command}
use Rattle.cc2_base.specs.Paths.{joined, parent_of}
use Rattle.cc2_base.specs.Told.{Tree}

-- there is something at the path
abbrev pub is_there : Tree → List ℕ → Bool
is_there fs path = is_some (fs path)

-- what the command is made of
pub record Settings : Type 0 where
  -- the command that the caller chose
  pub chosen : Option Command
  pub rustc : Option (List ℕ)
  pub wrapper : Option (List ℕ)
  pub workspace_wrapper : Option (List ℕ)
  -- the program of Cargo
  pub cargo : List ℕ

-- `rustc` in Cargo's folder; a path without parent is taken as its own
abbrev pub beside_cargo : List ℕ → List ℕ
beside_cargo cargo = joined (unwrap_or (parent_of cargo) cargo) (codes "rustc")

-- the program: that of `build.rustc`, else the one beside Cargo where that is there, else the word
abbrev pub rustc_program : (List ℕ → Bool) → Option (List ℕ) → List ℕ → List ℕ
rustc_program there (Some program) cargo = program
rustc_program there None cargo = if there (beside_cargo cargo) then beside_cargo cargo else codes "rustc"

-- the first of the wrappers is the program; the others and rustc are its arguments
abbrev pub wrapped : List (List ℕ) → List ℕ → Command
wrapped [] rustc = bare_command rustc
wrapped (wrapper ∷ others) rustc = record { program = wrapper; args = others ++ rustc ∷ [] }

-- those of the wrappers that there are
abbrev pub present : List (Option (List ℕ)) → List (List ℕ)
present wrappers = flat_map option_to_list wrappers

-- the chosen command, else rustc after those of the wrappers that there are
abbrev pub chosen_or_wrapped : (List ℕ → Bool) → Settings → List (Option (List ℕ)) → Command
chosen_or_wrapped there s wrappers = unwrap_or s.chosen (wrapped (present wrappers) (rustc_program there s.rustc s.cargo))

abbrev pub rustc_command : (List ℕ → Bool) → Settings → Command
rustc_command there s = chosen_or_wrapped there s (s.wrapper ∷ s.workspace_wrapper ∷ [])

-- for asking versions the workspace wrapper is left out
abbrev pub rustc_command_for_versions : (List ℕ → Bool) → Settings → Command
rustc_command_for_versions there s = chosen_or_wrapped there s (s.wrapper ∷ [])
