-- What the words ask.
use Rattle.std.specs.Prelude.{ℕ, Bool, true, false, List, [], ◌∷◌, codes, flat_map, nat_eq, Option, Some, None, option_map, bytes_eq, not, ◌&&◌, ◌||◌, if◌then◌else◌}
use Rattle.std.specs.List.{starts_with}
use Rattle.cc2_cli.specs.Choices.{Choice, are_pairs, choices_of}

-- which configuration of a directory is shown
pub data Stage : Type 0 where
  -- the one that Cargo itself would use
  resolved : Stage
  -- the files, merged
  files : Stage
  -- the files, merged, under the environment's variables
  environment : Stage

-- how a configuration is printed
pub data Format : Type 0 where
  toml : Format
  -- JSON of the whole configuration, or of it with one key alone
  json : Format
  -- JSON of what is at the key
  json_value : Format

-- what is asked of a directory
pub record Request : Type 0 where
  pub dir : List ℕ
  -- the key whose value alone is shown
  pub key : Option (List ℕ)
  pub stage : Stage
  pub format : Format
  -- whether it is one configuration, or each source's by itself
  pub merged : Bool
  -- whether each value is shown with where it was set
  pub origins : Bool
  pub tokens : Bool

pub data Task : Type 0 where
  -- no word at all
  nothing : Task
  help : Task
  version : Task
  show : Request → Task
  -- words that are no question
  unknown : Task

-- a part of what is asked of a directory: a word, or `--format` or `--merged` and its value
pub data Part : Type 0 where
  key : List ℕ → Part
  stage : Stage → Part
  format : Format → Part
  merged : Bool → Part
  origins : Part
  tokens : Part

-- the part that a word alone is; a key is what doesn't begin as an option does
abbrev pub part_named : List ℕ → Option Part
part_named word =
    if bytes_eq word (codes "--files") then Some (stage files)
    else if bytes_eq word (codes "--environment") then Some (stage environment)
    else if bytes_eq word (codes "--show-origin") then Some origins
    else if bytes_eq word (codes "--tokens") then Some tokens
    else if starts_with nat_eq word (codes "--") then None
    else Some (key word)

abbrev pub format_named : List ℕ → Option Format
format_named word =
    if bytes_eq word (codes "toml") then Some toml
    else if bytes_eq word (codes "json") then Some json
    else if bytes_eq word (codes "json-value") then Some json_value
    else None

abbrev pub merged_named : List ℕ → Option Bool
merged_named word =
    if bytes_eq word (codes "yes") then Some true
    else if bytes_eq word (codes "no") then Some false
    else None

abbrev pub takes_value : List ℕ → Bool
takes_value word = bytes_eq word (codes "--format") || bytes_eq word (codes "--merged")

-- the part that an option and its value are
abbrev pub part_valued : List ℕ → List ℕ → Option Part
part_valued word value = if bytes_eq word (codes "--format") then option_map format (format_named value) else option_map merged (merged_named value)

-- a part in front of what was read after it; where there is none, the words stay
abbrev pub in_front : Option Part → List Part × List (List ℕ) → List (List ℕ) → List Part × List (List ℕ)
in_front None read words = ([], words)
in_front (Some part) read words = (part ∷ read.0, read.1)

-- the parts that words begin with, and the words after them
abbrev pub parted : List (List ℕ) → List Part × List (List ℕ)
parted [] = ([], [])
parted (word ∷ []) = in_front (part_named word) ([], []) (word ∷ [])
parted (word ∷ (next ∷ words)) =
    if takes_value word then in_front (part_valued word next) (parted words) (word ∷ (next ∷ words))
    else in_front (part_named word) (parted (next ∷ words)) (word ∷ (next ∷ words))

-- the parts of each kind
abbrev pub key_in : Part → List (List ℕ)
key_in (key text) = text ∷ []
key_in _ = []

abbrev pub stage_in : Part → List Stage
stage_in (stage s) = s ∷ []
stage_in _ = []

abbrev pub format_in : Part → List Format
format_in (format f) = f ∷ []
format_in _ = []

abbrev pub merged_in : Part → List Bool
merged_in (merged b) = b ∷ []
merged_in _ = []

abbrev pub origins_in : Part → List Bool
origins_in origins = true ∷ []
origins_in _ = []

abbrev pub tokens_in : Part → List Bool
tokens_in tokens = true ∷ []
tokens_in _ = []

abbrev pub at_most_one : {A : Type 0} → List A → Bool
at_most_one [] = true
at_most_one (a ∷ []) = true
at_most_one (a ∷ (b ∷ more)) = false

-- each kind is at most once
abbrev pub are_once : List Part → Bool
are_once parts =
    at_most_one (flat_map key_in parts) && at_most_one (flat_map stage_in parts) && at_most_one (flat_map format_in parts)
    && at_most_one (flat_map merged_in parts) && at_most_one (flat_map origins_in parts) && at_most_one (flat_map tokens_in parts)

abbrev pub first : {A : Type 0} → List A → Option A
first [] = None
first (a ∷ more) = Some a

abbrev pub first_or : {A : Type 0} → A → List A → A
first_or other [] = other
first_or other (a ∷ more) = a

-- the parts together; what isn't said is the resolved configuration as TOML, merged, without origins and tokens
abbrev pub request_of : List ℕ → List Part → Request
request_of dir parts = record {
  dir = dir;
  key = first (flat_map key_in parts);
  stage = first_or resolved (flat_map stage_in parts);
  format = first_or toml (flat_map format_in parts);
  merged = first_or true (flat_map merged_in parts);
  origins = first_or false (flat_map origins_in parts);
  tokens = first_or false (flat_map tokens_in parts);
}

-- what is asked, and under which choices
pub record Question : Type 0 where
  pub task : Task
  pub choices : List Choice

abbrev pub alone : Task → Question
alone task = record { task = task; choices = [] }

abbrev pub is_files : Stage → Bool
is_files files = true
is_files _ = false

abbrev pub has_word : List (List ℕ) → Bool
has_word [] = false
has_word (word ∷ words) = true

abbrev pub is_toml : Format → Bool
is_toml toml = true
is_toml _ = false

-- a pair would be above the files alone, or what isn't merged be written as JSON
abbrev pub is_at_odds : Request → List (List ℕ) → Bool
is_at_odds request words = (is_files request.stage && has_word words) || (not request.merged && not (is_toml request.format))

-- the request under what these pairs set
abbrev pub under : Request → List (List ℕ) → Question
under request words = if is_at_odds request words then alone unknown else record { task = show request; choices = choices_of words }

-- the parts, each kind at most once, and pairs after them
abbrev pub question_in : List ℕ → List Part → List (List ℕ) → Question
question_in dir parts words =
    if are_once parts && are_pairs words then under (request_of dir parts) words else alone unknown

abbrev pub one_word : List ℕ → Question
one_word word =
    if bytes_eq word (codes "--help") then alone help
    else if bytes_eq word (codes "--version") then alone version
    else question_in word [] []

-- a directory, the parts of a request in any order, and pairs after them
abbrev pub question_of : List (List ℕ) → Question
question_of [] = alone nothing
question_of (dir ∷ words) = if has_word words then question_in dir (parted words).0 (parted words).1 else one_word dir
