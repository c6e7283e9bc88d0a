-- At which key paths two configurations have different values, by their JSON.
use Rattle.std.specs.Prelude.{ℕ, Bool, true, false, not, ◌&&◌, List, ◌++◌, filter, bytes_eq, Option, Some, None, option_and_then, is_none, if◌then◌else◌}
use Rattle.serde_json.specs.Data.{Data, object}
use Rattle.serde_json.specs.Written.{compact_text}
use Rattle.cc2_json.specs.AtKey.{at_key}
use Rattle.cc2_compare.specs.Reads.{is_crate_key}
use Rattle.cc2_compare.specs.ValuePaths.{value_paths}
use Rattle.cc2_compare.specs.Words.{as_cargo_words, as_crate_words, takes_words}

-- what is no table
abbrev pub unless_table : Data → Option Data
unless_table (object ms) = None
unless_table d = Some d

-- the value at a path; none where a table is there, or nothing
abbrev pub single_value : List (List ℕ) → Data → Option Data
single_value p d = option_and_then unless_table (at_key false p d)

-- two values are printed alike, as their words where they are read as such
abbrev pub are_alike : Bool → Data → Data → Bool
are_alike is_words own other =
    if is_words then bytes_eq (compact_text (as_crate_words own)) (compact_text (as_cargo_words other))
    else bytes_eq (compact_text own) (compact_text other)

abbrev pub are_other : Bool → Option Data → Option Data → Bool
are_other is_words None other = false
are_other is_words (Some own) None = true
are_other is_words (Some own) (Some other) = not (are_alike is_words own other)

-- cargo-config2 0.1.45 has a value at the path, and Cargo another one or none
abbrev pub is_other : Data → Data → List (List ℕ) → Bool
is_other of_crate of_cargo p = are_other (takes_words p) (single_value p of_crate) (single_value p of_cargo)

-- cargo-config2 0.1.45 has no value at the path, where it reads one
abbrev pub is_of_cargo_alone : Data → List (List ℕ) → Bool
is_of_cargo_alone of_crate p = is_crate_key p && is_none (single_value p of_crate)

-- the paths at which cargo-config2 0.1.45 has another value than Cargo, or one alone; and those at which Cargo alone has one
abbrev pub differences : Data → Data → List (List (List ℕ))
differences of_crate of_cargo = filter (is_other of_crate of_cargo) (value_paths of_crate) ++ filter (is_of_cargo_alone of_crate) (value_paths of_cargo)
