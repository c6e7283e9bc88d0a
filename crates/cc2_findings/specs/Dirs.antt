-- What is wrong in the files of a directory.
use Rattle.std.specs.Prelude.{◌≡◌, ℕ, Bool, List, ◌++◌, codes, is_some, map, string_bytes, Option, Result, Ok, All}
use Rattle.cc2_error.specs.Causes.{Refusal}
use Rattle.cc2_base.specs.Told.{Tree}
use Rattle.cc2_base.specs.Walked.{walked}
use Rattle.cc2_findings.specs.declared.dir.LintedFile.{LintedFile}
use Rattle.cc2_findings.specs.Files.{IsContent, IsLinted}

abbrev pub path_of : LintedFile → List ℕ
path_of f = string_bytes f.path

-- what is wrong in the file at its path, and what that holds
abbrev pub IsOfFile : Tree → LintedFile → Type 0
IsOfFile fs f = IsLinted fs (path_of f) f.found × IsContent fs (path_of f) f.content.items

-- the files of a walk in its order, each with what is wrong in it
pub record AreOfWalk (fs : Tree) (paths : List (List ℕ)) (linted : List LintedFile) : Type 0 where
  pub walked_is : map path_of linted ≡ paths
  pub each : All (IsOfFile fs) linted

-- the walk is that of the directory, with the home that is known
abbrev pub AreOfDir : Tree → List ℕ → Result (Option (List ℕ)) Refusal → List LintedFile → Type 0
AreOfDir fs dir home linted = (known : Option (List ℕ)) × (home ≡ Ok known) × AreOfWalk fs (walked fs dir known) linted

-- there is a directory at a path
abbrev pub is_directory : Tree → List ℕ → Bool
is_directory fs path = is_some (fs (path ++ codes "/."))
