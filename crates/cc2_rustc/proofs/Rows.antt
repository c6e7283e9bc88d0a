-- Worked examples of the command for rustc, computed on the definitions.
use Rattle.std.proofs.Common.{◌≡◌, ℕ, List, [], ◌∷◌, Bool, Option, Some, None, codes, bytes_eq, false, refl}
use Rattle.cc2_error.specs.Commands.{Command, bare_command}
use Rattle.cc2_base.specs.Paths.{joined, components_of, parent_of}
use Rattle.cc2_rustc.specs.Rustc.{Settings, beside_cargo, rustc_program, rustc_command, rustc_command_for_versions}

abbrev nowhere : List ℕ → Bool
nowhere path = false

-- rustc `r` with these wrappers
abbrev with_wrappers : Option (List ℕ) → Option (List ℕ) → Settings
with_wrappers wrapper workspace = record {
  chosen = None;
  rustc = Some (codes "r");
  wrapper = wrapper;
  workspace_wrapper = workspace;
  cargo = codes "cargo";
}

abbrev command : List ℕ → List (List ℕ) → Command
command program args = record { program = program; args = args }

pub both_wrappers : rustc_command nowhere (with_wrappers (Some (codes "w")) (Some (codes "x"))) ≡ command (codes "w") (codes "x" ∷ codes "r" ∷ [])
both_wrappers = refl

pub workspace_wrapper_alone : rustc_command nowhere (with_wrappers None (Some (codes "x"))) ≡ command (codes "x") (codes "r" ∷ [])
workspace_wrapper_alone = refl

pub wrapper_alone : rustc_command nowhere (with_wrappers (Some (codes "w")) None) ≡ command (codes "w") (codes "r" ∷ [])
wrapper_alone = refl

pub no_wrapper : rustc_command nowhere (with_wrappers None None) ≡ bare_command (codes "r")
no_wrapper = refl

pub both_for_versions : rustc_command_for_versions nowhere (with_wrappers (Some (codes "w")) (Some (codes "x"))) ≡ command (codes "w") (codes "r" ∷ [])
both_for_versions = refl

pub workspace_wrapper_for_versions : rustc_command_for_versions nowhere (with_wrappers None (Some (codes "x"))) ≡ bare_command (codes "r")
workspace_wrapper_for_versions = refl

-- a command that was chosen goes before all of it, for versions too
abbrev chosen_one : Command
chosen_one = command (codes "c") (codes "a" ∷ [])

abbrev with_choice : Settings
with_choice = record (with_wrappers (Some (codes "w")) (Some (codes "x"))) { chosen = Some chosen_one }

pub chosen_command : rustc_command nowhere with_choice ≡ chosen_one
chosen_command = refl

pub chosen_for_versions : rustc_command_for_versions nowhere with_choice ≡ chosen_one
chosen_for_versions = refl

-- something is at this path alone
abbrev only : List ℕ → List ℕ → Bool
only there path = bytes_eq path there

pub beside_a_path : rustc_program (only (codes "/t/bin/rustc")) None (codes "/t/bin/cargo") ≡ codes "/t/bin/rustc"
unfolding joined parent_of components_of
beside_a_path = refl

pub nothing_beside_a_path : rustc_program (only (codes "/t/rustc")) None (codes "/t/bin/cargo") ≡ codes "rustc"
unfolding joined parent_of components_of
nothing_beside_a_path = refl

pub beside_the_root : rustc_program (only (codes "/rustc")) None (codes "/") ≡ codes "/rustc"
unfolding joined parent_of components_of
beside_the_root = refl

-- the parent of a bare name is the empty path, and so the path beside it is the word
pub beside_a_name : beside_cargo (codes "cargo") ≡ codes "rustc"
unfolding joined parent_of components_of
beside_a_name = refl

pub there_beside_a_name : rustc_program (only (codes "rustc")) None (codes "cargo") ≡ codes "rustc"
unfolding joined parent_of components_of
there_beside_a_name = refl

pub nothing_beside_a_name : rustc_program (only (codes "/rustc")) None (codes "cargo") ≡ codes "rustc"
unfolding joined parent_of components_of
nothing_beside_a_name = refl
