-- Configurations that were read of files.
use Rattle.std.specs.Prelude.{◌≡◌, ℕ, ◌+◌, List, [], ◌∷◌, ◌++◌, take}
use Rattle.cc2_error.specs.Causes.{Refusal}
use Rattle.cc2_base.specs.Told.{Tree}
use Rattle.cc2_value.specs.Cells.{KeyPath, Origin, file}
use Rattle.cc2_de.specs.declared.config.Config.{Config}
use Rattle.cc2_de.specs.Config.{config_at}
use Rattle.cc2_de.specs.ConfigFile.{IsConfig, file_as}
use Rattle.cc2_de.specs.Contexts.{merge_line, IsToldIn}

-- the configuration shows the cells of the file, each value with this origin
abbrev pub IsOfFileAs : Tree → List ℕ → Origin → Config → Type 0
IsOfFileAs fs path origin config = IsConfig fs path × ((p : KeyPath) → config_at config p ≡ file_as fs path origin p)

-- the same where the path is the origin
abbrev pub IsOfFile : Tree → List ℕ → Config → Type 0
IsOfFile fs path config = IsOfFileAs fs path (file path) config

-- each of them shows those of its file
abbrev pub AreOfFiles : Tree → List (List ℕ) → List Config → Type 0
AreOfFiles fs [] [] = Unit {0}
AreOfFiles fs [] (config ∷ configs) = ⊥
AreOfFiles fs (path ∷ paths) [] = ⊥
AreOfFiles fs (path ∷ paths) (config ∷ configs) = IsOfFile fs path config × AreOfFiles fs paths configs

-- the refusal names the file at the place, and the first one
pub record NamesPlace (paths : List (List ℕ)) (place : ℕ) (inner refusal : Refusal) : Type 0 where
  pub path : List ℕ
  pub nearest : List ℕ
  pub first : take 1 paths ≡ nearest ∷ []
  pub next : take (place + 1) paths ≡ take place paths ++ path ∷ []
  pub told : IsToldIn (merge_line path nearest) inner refusal
