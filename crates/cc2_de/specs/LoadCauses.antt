-- What a load of a list of files gives, nearest first, and why it may be refused.
use Rattle.std.specs.Prelude.{◌≡◌, ◌⊎◌, ℕ, List, [], ◌∷◌, ◌++◌, map, Option, Err}
use Rattle.cc2_error.specs.declared.error.Shape.{Shape}
use Rattle.cc2_error.specs.Causes.{mixed, Refusal, plain, in_context}
use Rattle.cc2_base.specs.Told.{Tree}
use Rattle.cc2_value.specs.Cells.{Cell, KeyPath, key_text, joined, cells_at, IsMapOf}
use Rattle.cc2_de.specs.ConfigFile.{IsConfig, IsFileCause, file_at}
use Rattle.cc2_de.specs.Contexts.{merge_line}

-- each of the files is a configuration
abbrev pub AreConfigs : Tree → List (List ℕ) → Type 0
AreConfigs fs [] = Unit {0}
AreConfigs fs (path ∷ paths) = IsConfig fs path × AreConfigs fs paths

-- the files from the nearest to the one at path are configurations, those before it have a pointwise
-- map, and with it there is none: two shapes meet at a place
pub record IsMergeCause (fs : Tree) (paths : List (List ℕ)) (refusal : Refusal) : Type 0 where
  pub nearest : List ℕ
  pub between : List (List ℕ)
  pub path : List ℕ
  pub others : List (List ℕ)
  pub walked : paths ≡ nearest ∷ (between ++ path ∷ others)
  pub configs : AreConfigs fs (nearest ∷ (between ++ path ∷ []))
  pub before : KeyPath → Option Cell
  pub merges : IsMapOf (file_at fs) (nearest ∷ between) before
  pub place : KeyPath
  pub shapes : Shape × Shape
  pub meet : joined (cells_at (file_at fs) place (nearest ∷ (between ++ path ∷ []))) ≡ Err shapes
  pub is : refusal ≡ in_context (merge_line path nearest) (plain (mixed (map key_text place) shapes.0 shapes.1))

-- one of the files is refused
abbrev pub IsCauseAmong : Tree → List (List ℕ) → Refusal → Type 0
IsCauseAmong fs [] refusal = ⊥
IsCauseAmong fs (path ∷ paths) refusal = IsFileCause fs path refusal ⊎ IsCauseAmong fs paths refusal

-- why the load of these files is refused
abbrev pub IsLoadCause : Tree → List (List ℕ) → Refusal → Type 0
IsLoadCause fs paths refusal = IsCauseAmong fs paths refusal ⊎ IsMergeCause fs paths refusal
