-- What Cargo reads as a command at a key: words of files, of a variable or of the command line.
-- Cargo Reference, Configuration, `target.<triple>.runner`.
use Rattle.std.specs.Prelude.{ℕ, Bool, false, codes, List, [], ◌∷◌, ◌++◌, Option, Some, None, option_map, Result, Ok, Err, if◌then◌else◌}
use Rattle.std.specs.List.{join_by}
use Rattle.cc2_error.specs.Causes.{Refusal, empty_command, in_context, plain}
use Rattle.cc2_base.specs.declared.machine.Machine.{Machine}
use Rattle.cc2_value.specs.Cells.{Origin, Word}
use Rattle.cc2_cargo.specs.Raw.{Path, RawCell, RawValue, single, array, table, is_of_override}
use Rattle.cc2_cargo_settings.specs.Cells.{array_words, read_as, typed, words_of_cell}
use Rattle.cc2_cargo_settings.specs.Found.{Lookup, nowhere, at, blocked, lookup_at}
use Rattle.cc2_cargo_settings.specs.ProgramOrigin.{first_set_at, origin_beside, origin_there}
use Rattle.cc2_cargo_settings.specs.Values.{is_override, on_ok, variable_words}
use Rattle.cc2_cargo_settings.specs.Variables.{Given, unset, set_to, not_utf8, given, or_not_utf8}

abbrev pub begins_with_override : Option (List Word) → Bool
begins_with_override None = false
begins_with_override (Some []) = false
begins_with_override (Some (w ∷ ws)) = is_override w

-- a command, in whose place the variable's is taken unless it is of the command line; its program is relative to where it is set as a
-- whole
abbrev pub replaced : List ℕ → Given → Option Origin → Option (List Word) → Result (Option (List Word)) Refusal
replaced name unset origin set = Ok (option_map (first_set_at origin) set)
replaced name (set_to t) origin set = Ok (if begins_with_override set then set else Some (variable_words name t))
replaced name (not_utf8 bytes) origin set = or_not_utf8 name bytes (option_map (first_set_at (origin_beside name origin)) set)

-- the line that names a key
abbrev pub key_line : Path → List ℕ
key_line path = codes "could not load config key `" ++ (join_by (λ k. k) (codes ".") path ++ codes "`")

-- a command has a program
abbrev pub with_program : Path → Option (List Word) → Result (Option (List Word)) Refusal
with_program path None = Ok None
with_program path (Some []) = Err (in_context (key_line path) (plain empty_command))
with_program path (Some (w ∷ ws)) = Ok (Some (w ∷ ws))

abbrev pub first_is_override : List RawValue → Bool
first_is_override [] = false
first_is_override (s ∷ ss) = is_of_override s.origin

-- the items of an array beside a variable, whose program is relative to where the array is set
abbrev pub items_beside : Path → List ℕ → Option Origin → List RawValue → Result (Option (List Word)) Refusal
items_beside path name origin ss =
    on_ok (λ set. Ok (option_map (first_set_at (origin_beside name origin)) set)) (typed path (array_words ss))

-- the words of what is found, where a variable doesn't replace them
abbrev pub found_or_given : Path → List ℕ → Given → Lookup → Result (Option (List Word)) Refusal
found_or_given path name g set = on_ok (replaced name g (origin_there set)) (read_as words_of_cell path set)

-- the words of a command beside a variable's text, which replaces an array of any values that isn't of the command line
abbrev pub words_beside : Path → List ℕ → List ℕ → Lookup → Result (Option (List Word)) Refusal
words_beside path name t (at (array from ss)) =
    if first_is_override ss then items_beside path name from.origin ss else Ok (Some (variable_words name t))
words_beside path name t (at (single s)) = found_or_given path name (set_to t) (at (single s))
words_beside path name t (at table) = found_or_given path name (set_to t) (at table)
words_beside path name t nowhere = found_or_given path name (set_to t) nowhere
words_beside path name t blocked = found_or_given path name (set_to t) blocked

-- the words of a command
abbrev pub words_of_command : Path → List ℕ → Given → Lookup → Result (Option (List Word)) Refusal
words_of_command path name (set_to t) set = words_beside path name t set
words_of_command path name unset set = found_or_given path name unset set
words_of_command path name (not_utf8 bytes) set = found_or_given path name (not_utf8 bytes) set

-- the words of the command at a path, or those of its variable
abbrev pub command_at : (Path → Option RawCell) → Machine → Path → List ℕ → Result (Option (List Word)) Refusal
command_at look machine path name = on_ok (with_program path) (words_of_command path name (given machine name) (lookup_at look path))
