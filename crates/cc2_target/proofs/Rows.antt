-- Worked rows, computed on the definitions.
use Rattle.std.proofs.Common.{◌≡◌, ℕ, List, [], ◌∷◌, Option, Some, None, codes, cond, bytes_eq, refl}
use Rattle.cc2_value.specs.Cells.{name, KeyPath, Cell, Entry, Undecoded}
use lib.Utf8.{encode}
use Rattle.std.specs.Str.{trim_start, trim_end, chars, is_utf8}
use Rattle.cc2_error.specs.Causes.{plain, empty_command}
use Rattle.cc2_base.specs.EnvTexts.{not_text_refusal}
use Rattle.cc2_env.specs.Kept.{Variables}
use Rattle.cc2_target.specs.Finding.{table_path}
use Rattle.cc2_base.specs.VariableNames.{target_variable}
use Rattle.cc2_target.specs.Sources.{first_present}
use Rattle.cc2_target.specs.Variables.{variable_refusals}

-- names, and what is at the path that they make
abbrev Placed : Type 0
Placed = List (List ℕ) × Cell

abbrev same_path : List (List ℕ) → KeyPath → Option Cell → Option Cell → Option Cell
same_path [] [] here rest = here
same_path (k ∷ ks) (name l ∷ p) here rest = cond (bytes_eq k l) (same_path ks p here rest) rest
same_path _ _ here rest = rest

-- these cells, and nothing else
abbrev with_cells : List Placed → KeyPath → Option Cell
with_cells [] p = None
with_cells (c ∷ cs) p = same_path c.0 p (Some c.1) (with_cells cs p)

-- `[target.thumbv8m.main-none-eabi]` is two keys
pub two_keys : table_path
    (with_cells ((codes "thumbv8m" ∷ [], Entry) ∷ (codes "thumbv8m" ∷ codes "main-none-eabi" ∷ [], Entry) ∷ []))
    (codes "thumbv8m.main-none-eabi") ≡ Some (name (codes "thumbv8m") ∷ name (codes "main-none-eabi") ∷ [])
two_keys = refl

-- the whole triple as one key goes before them
pub whole_key : table_path
    (with_cells ((codes "a" ∷ [], Entry) ∷ (codes "a" ∷ codes "b" ∷ [], Entry) ∷ (codes "a.b" ∷ [], Entry) ∷ []))
    (codes "a.b") ≡ Some (name (codes "a.b") ∷ [])
whole_key = refl

abbrev abc : List Placed
abc =
    (codes "a" ∷ [], Entry) ∷ (codes "a" ∷ codes "b" ∷ [], Entry)
    ∷ (codes "a" ∷ codes "b" ∷ codes "c" ∷ [], Entry) ∷ []

pub three_keys : table_path (with_cells abc) (codes "a.b.c")
    ≡ Some (name (codes "a") ∷ name (codes "b") ∷ name (codes "c") ∷ [])
three_keys = refl

-- a value that is no table is nearer
pub undecoded_nearer : table_path (with_cells ((codes "a" ∷ codes "b.c" ∷ [], Undecoded) ∷ abc)) (codes "a.b.c") ≡ None
undecoded_nearer = refl

-- no table is at the first piece
pub no_front : table_path (with_cells ((codes "a" ∷ [], Undecoded) ∷ (codes "a" ∷ codes "b" ∷ [], Entry) ∷ []))
    (codes "a.b") ≡ None
no_front = refl

-- a near table isn't the triple's
pub near_alone : table_path (with_cells ((codes "a" ∷ [], Entry) ∷ [])) (codes "a.b") ≡ None
near_alone = refl

-- ---- names
pub dots_and_dashes : target_variable (codes "thumbv8m.main-none-eabi") (codes "_LINKER")
    ≡ codes "CARGO_TARGET_THUMBV8M_MAIN_NONE_EABI_LINKER"
dots_and_dashes = refl

pub other_marks_stay : target_variable (codes "x86_64/Y+1") (codes "_RUNNER") ≡ codes "CARGO_TARGET_X86_64/Y+1_RUNNER"
other_marks_stay = refl

-- ---- variables
-- this one is set, and no other
abbrev only : List ℕ → List ℕ → Variables
only m value n = cond (bytes_eq m n) (Some value) None

-- a blank runner has no word
pub blank_runner : variable_refusals (only (codes "CARGO_TARGET_X_RUNNER") (codes " ")) (codes "x")
    ≡ plain empty_command ∷ []
unfolding is_utf8 trim_start trim_end chars encode
blank_runner = refl

pub linker_no_text : variable_refusals (only (codes "CARGO_TARGET_X_LINKER") (128 ∷ [])) (codes "x")
    ≡ not_text_refusal (codes "CARGO_TARGET_X_LINKER") (128 ∷ []) ∷ []
unfolding is_utf8 trim_start trim_end chars encode
linker_no_text = refl

-- blank flags are none
pub blank_flags : variable_refusals (only (codes "CARGO_TARGET_X_RUSTFLAGS") (codes " ")) (codes "x") ≡ []
unfolding is_utf8 trim_start trim_end chars encode
blank_flags = refl

-- a variable of another triple
pub other_triple : variable_refusals (only (codes "CARGO_TARGET_Y_RUNNER") (codes " ")) (codes "x") ≡ []
other_triple = refl

-- ---- sources
-- the variable's is before the table's, and a later true table's where no earlier one has any
pub variable_first : first_present (Some (codes "k") ∷ (Some (codes "l") ∷ [])) ≡ Some (codes "k")
variable_first = refl

pub later_table : first_present (None ∷ (None ∷ (None ∷ (Some (codes "l") ∷ [])))) ≡ Some (codes "l")
later_table = refl
