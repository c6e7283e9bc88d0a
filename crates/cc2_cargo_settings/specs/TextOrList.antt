-- What Cargo reads at a key whose value is a text or a list of texts. Cargo Reference, Configuration, `build.target`,
-- environment variables, command-line overrides.
use Rattle.std.specs.Prelude.{ℕ, Bool, ◌||◌, is_some, if◌then◌else◌, List, [], ◌∷◌, Option, Some, None, option_map, Result, Ok, Err}
use Rattle.cc2_error.specs.Causes.{Refusal, plain, wrong_type}
use Rattle.cc2_base.specs.declared.machine.Machine.{Machine}
use Rattle.cc2_value.specs.Cells.{Word, variable}
use Rattle.cc2_value.specs.SingleTexts.{truth_text}
use Rattle.cc2_cargo.specs.Raw.{Path, RawCell, RawValue, single, array, table, is_of_override}
use Rattle.cc2_cargo_settings.specs.Cells.{array_words, text_word, typed}
use Rattle.cc2_cargo_settings.specs.Found.{Lookup, nowhere, at, blocked, lookup_at}
use Rattle.cc2_cargo_settings.specs.Scalars.{int64_text}
use Rattle.cc2_cargo_settings.specs.Values.{list_joined, on_ok}
use Rattle.cc2_cargo_settings.specs.Variables.{Given, unset, set_to, not_utf8, given, or_not_utf8}

-- Cargo takes this text of a variable for a boolean or a whole number
abbrev pub is_no_text : List ℕ → Bool
is_no_text text = is_some (truth_text text) || is_some (int64_text text)

-- a word by itself
abbrev pub one_word : Option Word → Option (List Word)
one_word word = option_map (λ w. w ∷ []) word

-- the text that a variable sets
abbrev pub set_by_variable : Path → List ℕ → List ℕ → Result (Option (List Word)) Refusal
set_by_variable path name text =
    if is_no_text text then Err (plain (wrong_type path)) else Ok (Some (record { text = text; origin = Some (variable name) } ∷ []))

-- the text of a variable, where nothing else is set
abbrev pub set_or_none : Path → List ℕ → Given → Result (Option (List Word)) Refusal
set_or_none path name unset = Ok None
set_or_none path name (set_to t) = set_by_variable path name t
set_or_none path name (not_utf8 bytes) = or_not_utf8 name bytes None

-- a single value, in whose place a variable's text is taken, unless it is of the command line
abbrev pub single_or_variable : Path → List ℕ → RawValue → Given → Result (Option (List Word)) Refusal
single_or_variable path name s (set_to t) =
    if is_of_override s.origin then typed path (one_word (text_word s.value s.origin)) else set_by_variable path name t
single_or_variable path name s g = typed path (one_word (text_word s.value s.origin))

-- the texts of an array, with the words of a variable
abbrev pub array_and_variable : Path → List ℕ → List RawValue → Given → Result (Option (List Word)) Refusal
array_and_variable path name ss (set_to t) =
    if is_no_text t then Err (plain (wrong_type path)) else on_ok (λ set. Ok (list_joined name (Some t) set)) (typed path (array_words ss))
array_and_variable path name ss g = typed path (array_words ss)

-- what is read where this is at the path, and the variable gives this
abbrev pub text_or_list_by : Path → List ℕ → Given → Lookup → Result (Option (List Word)) Refusal
text_or_list_by path name g nowhere = set_or_none path name g
text_or_list_by path name g (at (single s)) = single_or_variable path name s g
text_or_list_by path name g (at (array from ss)) = array_and_variable path name ss g
text_or_list_by path name g (at table) = Err (plain (wrong_type path))
text_or_list_by path name g blocked = Err (plain (wrong_type path))

-- the text at a path or its variable's, or the words of the list there with those of its variable
abbrev pub text_or_list_at : (Path → Option RawCell) → Machine → Path → List ℕ → Result (Option (List Word)) Refusal
text_or_list_at look machine path name = text_or_list_by path name (given machine name) (lookup_at look path)
