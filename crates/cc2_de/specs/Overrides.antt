-- What overrides make of a configuration, the latest the strongest, and why they are refused.
-- Cargo Reference, Configuration, command-line overrides.
use Rattle.std.specs.Prelude.{◌≡◌, ◌⊎◌, ℕ, ◌+◌, List, [], ◌∷◌, ◌++◌, length, map, reverse, take, Option, Some, None, Err}
use Rattle.cc2_error.specs.declared.error.Shape.{Shape}
use Rattle.cc2_error.specs.Causes.{mixed, Refusal, plain, in_context}
use Rattle.cc2_base.specs.Paths.{joined as path_joined}
use Rattle.cc2_base.specs.Told.{Tree}
use Rattle.cc2_value.specs.Cells.{Cell, KeyPath, key_text, joined, cells_at, command_line, IsMapOf}
use Rattle.cc2_value.specs.Places.{HaveMap}
use Rattle.cc2_env.specs.CommandLine.{Override, from_text, from_file}
use Rattle.cc2_de.specs.declared.config.Config.{Config}
use Rattle.cc2_de.specs.Config.{config_at}
use Rattle.cc2_de.specs.ConfigFile.{IsConfig, IsFileCause, file_as}
use Rattle.cc2_de.specs.ConfigText.{text_as, IsConfigText, IsTextCause}
use Rattle.cc2_de.specs.Contexts.{override_line, over_line}

-- what several configurations show, one upon the other
abbrev pub itself : (KeyPath → Option Cell) → KeyPath → Option Cell
itself look p = look p

module _ (fs : Tree) (dir : List ℕ) where
  -- the cells of an override: a text has no file, a path is seen from the directory
  abbrev pub override_at : Override → KeyPath → Option Cell
  override_at (from_text text) p = text_as text (command_line None) p
  override_at (from_file path) p = file_as fs (path_joined dir path) (command_line (Some (path_joined dir path))) p

  -- an override is a configuration
  abbrev pub IsOverride : Override → Type 0
  IsOverride (from_text text) = IsConfigText text
  IsOverride (from_file path) = IsConfig fs (path_joined dir path)

  -- the configuration shows the override
  abbrev pub IsOfOverride : Override → Config → Type 0
  IsOfOverride o config = IsOverride o × ((p : KeyPath) → config_at config p ≡ override_at o p)

  -- why the override of this number is none
  abbrev pub IsOverrideCause : ℕ → Override → Refusal → Type 0
  IsOverrideCause n (from_text text) refusal = (inner : Refusal) × IsTextCause text inner × (refusal ≡ in_context (override_line n) inner)
  IsOverrideCause n (from_file path) refusal = IsFileCause fs (path_joined dir path) refusal

  -- each of them is a configuration
  abbrev pub AreOverrides : List Override → Type 0
  AreOverrides [] = Unit {0}
  AreOverrides (o ∷ os) = IsOverride o × AreOverrides os

  -- one of them is none, the first of which has this number
  abbrev pub IsCauseFrom : ℕ → List Override → Refusal → Type 0
  IsCauseFrom n [] refusal = ⊥
  IsCauseFrom n (o ∷ os) refusal = IsOverrideCause n o refusal ⊎ IsCauseFrom (n + 1) os refusal

  -- the overrides, the latest first, and then what is below them
  abbrev pub layers : List Override → (KeyPath → Option Cell) → List (KeyPath → Option Cell)
  layers os below = map override_at (reverse os) ++ below ∷ []

  -- all are configurations, and m is the pointwise map of the layers
  abbrev pub IsOver : List Override → (KeyPath → Option Cell) → (KeyPath → Option Cell) → Type 0
  IsOver os below m = AreOverrides os × IsMapOf itself (layers os below) m

  -- all are configurations, and the layers have no pointwise map: those before a place have one, and with the
  -- one at the place two shapes meet
  pub record IsUnmergedOver (os : List Override) (below : KeyPath → Option Cell) (refusal : Refusal) : Type 0 where
    pub overrides : AreOverrides os
    pub place : ℕ
    pub before : HaveMap itself (take place (layers os below))
    pub path : KeyPath
    pub shapes : Shape × Shape
    pub meet : joined (cells_at itself path (take (place + 1) (layers os below))) ≡ Err shapes
    pub is : refusal ≡ in_context (over_line (length os) place) (plain (mixed (map key_text path) shapes.0 shapes.1))

  -- an override is none, counted from 1, or the layers don't merge
  abbrev pub IsOverCause : List Override → (KeyPath → Option Cell) → Refusal → Type 0
  IsOverCause os below refusal = IsCauseFrom 1 os refusal ⊎ IsUnmergedOver os below refusal
