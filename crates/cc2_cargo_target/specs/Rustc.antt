-- The command for rustc, by what Cargo 1.95 reads: a variable that overrides everything, else the key in `[build]`, else `rustc`;
-- in front of it the wrappers, where they aren't empty. Cargo Reference, Configuration, `build.rustc`, `build.rustc-wrapper`.
use Rattle.std.specs.Prelude.{ℕ, codes, List, [], ◌∷◌, Option, Some, None, option_and_then, Result, Ok, Err}
use Rattle.cc2_error.specs.Causes.{Refusal}
use Rattle.cc2_error.specs.Commands.{Command}
use Rattle.cc2_base.specs.declared.machine.Machine.{Machine}
use Rattle.cc2_resolved.specs.Roots.{resolved}
use Rattle.cc2_resolved.specs.declared.roots.Meant.TheVariants.{Program}
use Rattle.cc2_value.specs.Cells.{Word, variable}
use Rattle.cc2_cargo.specs.Raw.{Path, RawCell}
use Rattle.cc2_cargo_settings.specs.Values.{text_at}
use Rattle.cc2_cargo_settings.specs.Variables.{variable_text}
use Rattle.cc2_cargo_target.specs.Programs.{program_path}
use Rattle.cc2_cargo_target.specs.declared.rustc.Part.{Part}
use Rattle.cc2_cargo_target.specs.declared.rustc.Part.TheVariants as part

abbrev pub part_variable : Part → List ℕ
part_variable part.Rustc = codes "RUSTC"
part_variable part.Wrapper = codes "RUSTC_WRAPPER"
part_variable part.WorkspaceWrapper = codes "RUSTC_WORKSPACE_WRAPPER"

abbrev pub part_build_variable : Part → List ℕ
part_build_variable part.Rustc = codes "CARGO_BUILD_RUSTC"
part_build_variable part.Wrapper = codes "CARGO_BUILD_RUSTC_WRAPPER"
part_build_variable part.WorkspaceWrapper = codes "CARGO_BUILD_RUSTC_WORKSPACE_WRAPPER"

abbrev pub part_key : Part → List ℕ
part_key part.Rustc = codes "rustc"
part_key part.Wrapper = codes "rustc-wrapper"
part_key part.WorkspaceWrapper = codes "rustc-workspace-wrapper"

abbrev pub some_path : Result (List ℕ) Refusal → Result (Option (List ℕ)) Refusal
some_path (Ok path) = Ok (Some path)
some_path (Err refusal) = Err refusal

-- what is read, as Cargo runs it
abbrev pub path_read : List ℕ → Result (Option Word) Refusal → Result (Option (List ℕ)) Refusal
path_read dir (Ok None) = Ok None
path_read dir (Ok (Some w)) = some_path (program_path dir w)
path_read dir (Err refusal) = Err refusal

-- the program of the variable, which a backslash makes a path too; else what is read
abbrev pub variable_or_read : List ℕ → List ℕ → Option (List ℕ) → Result (Option Word) Refusal → Result (Option (List ℕ)) Refusal
variable_or_read dir name (Some text) read = some_path (resolved Program dir (record { text = text; origin = Some (variable name) }))
variable_or_read dir name None read = path_read dir read

-- a path that isn't empty
abbrev pub if_named : List ℕ → Option (List ℕ)
if_named [] = None
if_named (b ∷ path) = Some (b ∷ path)

abbrev pub path_or : List ℕ → Option (List ℕ) → List ℕ
path_or default None = default
path_or default (Some path) = path

-- a program, and what it runs
abbrev pub run_by : Option (List ℕ) → Command → Command
run_by None c = c
run_by (Some program) c = record { program = program; args = c.program ∷ c.args }

abbrev pub command_of_parts : Result (Option (List ℕ)) Refusal → Result (Option (List ℕ)) Refusal → Result (Option (List ℕ)) Refusal → Result Command Refusal
command_of_parts (Err refusal) workspace_wrapper wrapper = Err refusal
command_of_parts (Ok rustc) (Err refusal) wrapper = Err refusal
command_of_parts (Ok rustc) (Ok workspace_wrapper) (Err refusal) = Err refusal
command_of_parts (Ok rustc) (Ok workspace_wrapper) (Ok wrapper) =
    Ok (run_by (option_and_then if_named wrapper) (run_by (option_and_then if_named workspace_wrapper)
    (record { program = path_or (codes "rustc") rustc; args = [] })))

module _ (look : Path → Option RawCell) (machine : Machine) (dir : List ℕ) where
  abbrev pub part_of : Part → Result (Option (List ℕ)) Refusal
  part_of p =
      variable_or_read dir (part_variable p) (variable_text machine (part_variable p))
      (text_at look machine (codes "build" ∷ (part_key p ∷ [])) (part_build_variable p))

  -- the command for rustc
  abbrev pub rustc_command : Result Command Refusal
  rustc_command = command_of_parts (part_of part.Rustc) (part_of part.WorkspaceWrapper) (part_of part.Wrapper)
