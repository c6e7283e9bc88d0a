-- What Cargo reads at a key: lists of words and single texts, of files, of a variable and of the command line.
-- Cargo Reference, Configuration, environment variables, command-line overrides.
use Rattle.std.specs.Prelude.{ℕ, Bool, false, not, List, [], ◌++◌, filter, Option, Some, None, option_map, Result, Ok, Err, if◌then◌else◌}
use Rattle.cc2_error.specs.Causes.{Refusal}
use Rattle.cc2_base.specs.declared.machine.Machine.{Machine}
use Rattle.cc2_value.specs.Cells.{Origin, Word, variable}
use Rattle.cc2_cargo.specs.Raw.{Path, RawCell, is_of_override}
use Rattle.cc2_cargo_settings.specs.Cells.{read_as, text_of_cell, words_of_cell}
use Rattle.cc2_cargo_settings.specs.Found.{lookup_at}
use Rattle.cc2_cargo_settings.specs.Variables.{Given, unset, set_to, not_utf8, given, or_not_utf8, variable_text}
use Rattle.cc2_cargo_settings.specs.Words.{words_of_setting}

abbrev pub is_override : Word → Bool
is_override w = is_of_override w.origin

abbrev pub is_no_override : Word → Bool
is_no_override w = not (is_override w)

abbrev pub words_or_none : Option (List Word) → List Word
words_or_none None = []
words_or_none (Some ws) = ws

-- the words that a variable sets
abbrev pub variable_words : List ℕ → List ℕ → List Word
variable_words name t = words_of_setting (Some (variable name)) t

-- these words: first those that aren't of the command line, then the variable's, then those of the command line
abbrev pub around : List ℕ → List ℕ → List Word → List Word
around name t ws = (filter is_no_override ws ++ variable_words name t) ++ filter is_override ws

-- a list with what its variable sets
abbrev pub list_joined : List ℕ → Option (List ℕ) → Option (List Word) → Option (List Word)
list_joined name None set = set
list_joined name (Some t) set = Some (around name t (words_or_none set))

-- a text that is taken as if this variable had set it, unless it is of the command line: Cargo sees only that there is one
abbrev pub beside : List ℕ → Word → Word
beside name w = if is_override w then w else record { text = w.text; origin = Some (variable name) }

abbrev pub is_override_text : Option Word → Bool
is_override_text None = false
is_override_text (Some w) = is_override w

-- a text, in whose place the variable's is taken unless it is of the command line
abbrev pub replaced_text : List ℕ → Given → Option Word → Result (Option Word) Refusal
replaced_text name unset set = Ok set
replaced_text name (set_to t) set = Ok (if is_override_text set then set else Some (record { text = t; origin = Some (variable name) }))
replaced_text name (not_utf8 bytes) set = or_not_utf8 name bytes (option_map (beside name) set)

-- what follows from a value, or the refusal
abbrev pub on_ok : {A B : Type 0} → (A → Result B Refusal) → Result A Refusal → Result B Refusal
on_ok f (Ok a) = f a
on_ok f (Err refusal) = Err refusal

module _ (look : Path → Option RawCell) (machine : Machine) where
  -- the words of the list at a path, with those of its variable
  abbrev pub list_at : Path → List ℕ → Result (Option (List Word)) Refusal
  list_at path name = on_ok (λ set. Ok (list_joined name (variable_text machine name) set)) (read_as words_of_cell path (lookup_at look path))

  -- the text at a path, or that of its variable
  abbrev pub text_at : Path → List ℕ → Result (Option Word) Refusal
  text_at path name = on_ok (replaced_text name (given machine name)) (read_as text_of_cell path (lookup_at look path))
