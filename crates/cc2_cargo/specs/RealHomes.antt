-- Whether the cargo home is a folder of the walk by another path.
-- Cargo Reference, Configuration, hierarchical structure; Cargo 1.95 for what a link leads to.
use Rattle.std.specs.Prelude.{ℕ, Bool, List, Option, Some, None, ◌||◌, if◌then◌else◌, unwrap_or}
use Rattle.std.specs.List.{list_any}
use Rattle.cc2_base.specs.Paths.{ancestors_of, same_path}
use Rattle.cc2_base.specs.Walked.{folder_of}
use Rattle.cc2_cargo.specs.RealPaths.{RealPathMap}

-- a folder is the home, by its real path or by its own
abbrev pub is_home : List ℕ → List ℕ → List ℕ → Bool
is_home real_home home folder = same_path folder real_home || same_path folder home

module _ (reals : RealPathMap) where
  -- the real path of what is at a path, where it is known; else the path itself
  abbrev pub real_or_own : List ℕ → List ℕ
  real_or_own path = unwrap_or (reals path) path

  -- the real path of a directory's folder of configuration
  abbrev pub real_folder : List ℕ → List ℕ
  real_folder dir = real_or_own (folder_of dir)

  -- it is the home's real path, or the home's own path
  abbrev pub is_own_folder : List ℕ → List ℕ → Bool
  is_own_folder home dir = is_home (real_or_own home) home (real_folder dir)

  -- the home, unless it is the folder of the directory or of one above it
  abbrev pub home_beside : List ℕ → Option (List ℕ) → Option (List ℕ)
  home_beside dir None = None
  home_beside dir (Some home) = if list_any (is_own_folder home) (ancestors_of dir) then None else Some home
