-- What the words ask.
use Rattle.std.specs.Prelude.{ℕ, List, [], ◌∷◌, codes, bytes_eq, if◌then◌else◌}
use Rattle.cc2_cli.specs.Choices.{Choice, are_pairs, choices_of}

pub data Task : Type 0 where
  -- no word at all
  nothing : Task
  -- the build table of a directory
  build : List ℕ → Task
  -- the command for rustc of a directory
  rustc : List ℕ → Task
  -- the triple of the host, in a directory
  host : List ℕ → Task
  -- the settings of the target of a text, in a directory
  target : List ℕ → List ℕ → Task
  -- words that are no question
  unknown : Task

-- what is asked, and under which choices
pub record Question : Type 0 where
  pub task : Task
  pub choices : List Choice

abbrev pub alone : Task → Question
alone task = record { task = task; choices = [] }

-- the task under what the words after it set; words that are no pairs are no question
abbrev pub under : Task → List (List ℕ) → Question
under task words = if are_pairs words then record { task = task; choices = choices_of words } else alone unknown

-- the word after a directory
abbrev pub task_in : List ℕ → List ℕ → Task
task_in dir word =
    if bytes_eq word (codes "build") then build dir
    else (if bytes_eq word (codes "rustc") then rustc dir
    else (if bytes_eq word (codes "host") then host dir else unknown))

-- the words after a directory and `target`
abbrev pub target_question : List ℕ → List (List ℕ) → Question
target_question dir [] = alone unknown
target_question dir (text ∷ words) = under (target dir text) words

abbrev pub question_of : List (List ℕ) → Question
question_of [] = alone nothing
question_of (dir ∷ []) = alone unknown
question_of (dir ∷ (word ∷ words)) =
    if bytes_eq word (codes "target") then target_question dir words else under (task_in dir word) words
