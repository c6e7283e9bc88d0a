-- What options set above every file and variable.
use Rattle.std.specs.Prelude.{ℕ, Bool, true, false, List, [], ◌∷◌, codes, bytes_eq, ◌&&◌, ◌||◌, if◌then◌else◌}

-- what one option sets
pub data Choice : Type 0 where
  -- a TOML text
  config : List ℕ → Choice
  -- the file at a path
  config_file : List ℕ → Choice

abbrev pub is_option : List ℕ → Bool
is_option word = bytes_eq word (codes "--config") || bytes_eq word (codes "--config-file")

-- the words are pairs, each an option and its value
abbrev pub are_pairs : List (List ℕ) → Bool
are_pairs [] = true
are_pairs (option ∷ []) = false
are_pairs (option ∷ (value ∷ words)) = is_option option && are_pairs words

abbrev pub choice_of : List ℕ → List ℕ → Choice
choice_of option value = if bytes_eq option (codes "--config") then config value else config_file value

-- what pairs set, in their order
abbrev pub choices_of : List (List ℕ) → List Choice
choices_of [] = []
choices_of (option ∷ []) = []
choices_of (option ∷ (value ∷ words)) = choice_of option value ∷ choices_of words
