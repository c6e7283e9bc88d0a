-- What the words of a request ask, and the paths that a reply may ask about.
use Rattle.std.specs.Prelude.{ℕ, List, [], ◌∷◌, ◌++◌, map, Option, Some, None, codes, bytes_eq, if◌then◌else◌}
use Rattle.std.specs.Str.{is_utf8}
use Rattle.cc2_base.specs.Machines.{variable_of}
use Rattle.cc2_base.specs.Paths.{joined}
use Rattle.cc2_base.specs.declared.machine.Machine.{Machine}
use Rattle.cc2_rustc.specs.Rustc.{beside_cargo}
use Rattle.cc2_ask.specs.Needs.{candidates_of}
use Rattle.cc2_cli.specs.GetWords.{question_of, Question as GetQuestion}
use Rattle.cc2_cli.specs.ShowWords.{parted, question_in, Question as ShowQuestion}

-- a question of one of the programs, several of a directory, or its load
pub data Asked : Type 0 where
  get : GetQuestion → Asked
  show : ShowQuestion → Asked
  -- the directory, and the words after `several`
  several : List ℕ → List (List ℕ) → Asked
  -- the directory, and the words after `load`
  load : List ℕ → List (List ℕ) → Asked

-- `DIR show` and words of `show` after it, `DIR several` and items after it, `DIR load` and pairs after it, or words of
-- `cc2_get`
abbrev pub asked_in : List (List ℕ) → Asked
asked_in [] = get (question_of [])
asked_in (dir ∷ []) = get (question_of (dir ∷ []))
asked_in (dir ∷ (word ∷ words)) =
    if bytes_eq word (codes "show") then show (question_in dir (parted words).0 (parted words).1)
    else (if bytes_eq word (codes "several") then several dir words
    else (if bytes_eq word (codes "load") then load dir words else get (question_of (dir ∷ (word ∷ words)))))

-- the program of Cargo that a variable names; a value that isn't UTF-8 names none
abbrev pub cargo_in : Option (List ℕ) → List ℕ
cargo_in None = codes "cargo"
cargo_in (Some value) = if is_utf8 value then value else codes "cargo"

-- rustc in the folder of Cargo's program, and each word as a path seen from the directory: one may be that of an
-- override's file
abbrev pub other_paths : List ℕ → List (List ℕ) → Machine → List (List ℕ)
other_paths dir words machine = beside_cargo (cargo_in (variable_of machine (codes "CARGO"))) ∷ map (joined dir) words

-- the directory that words ask about is the first of them
abbrev pub dir_of : List (List ℕ) → List ℕ
dir_of [] = []
dir_of (dir ∷ words) = dir

-- the paths at which the walk from that directory looks, and those others
abbrev pub askable : List (List ℕ) → Machine → List (List ℕ)
askable words machine = candidates_of (dir_of words) machine ++ other_paths (dir_of words) words machine
