-- Which values of a file are read and can't be resolved.
-- Cargo Reference, Configuration, config-relative paths.
use Rattle.std.specs.Prelude.{◌≡◌, ◌⊎◌, ℕ, List, [], Contains, Option, Some, None, option_map}
use Rattle.toml.specs.Data.{Members}
use Rattle.cc2_error.specs.declared.error.Error.{Error}
use Rattle.cc2_value.specs.Cells.{KeyPath, Cell, file}
use Rattle.cc2_value.specs.Copies.{cell_set}
use Rattle.cc2_value.specs.Ways.{Flaw}
use Rattle.cc2_de.specs.Config.{config_faults, decoded}
use Rattle.cc2_findings.specs.Alone.{AreJudged, keys_of}
use Rattle.cc2_findings.specs.declared.alone.ValueFault.{ValueFault}
use Rattle.cc2_resolved.specs.Roots.{above_file}
use Rattle.cc2_lint_settings.specs.UnresolvedKeys.{looked_at}
use Rattle.cc2_lint_settings.specs.Resolving.{IsRefusalAt}

-- the cells of a file at a path that has this table
abbrev pub AreCellsOf : List ℕ → Members → (KeyPath → Option Cell) → Type 0
AreCellsOf path ms m = (p : KeyPath) → m p ≡ option_map (cell_set (Some (file path))) (decoded None ms p)

-- these cells are resolved so
abbrev pub IsRefusalOf : List ℕ → List ℕ → List (List ℕ) → Members → Option Error → Type 0
IsRefusalOf directory path keys ms e = (m : KeyPath → Option Cell) × AreCellsOf path ms m × IsRefusalAt directory keys m e

-- a file at a path with this table is read, and resolution refuses it with this error; or a load refuses it, or resolution
-- doesn't
abbrev pub IsReadRefusal : List ℕ → List ℕ → List (List ℕ) → Members → Option Error → Type 0
IsReadRefusal directory path keys ms None = ((flaw : Flaw) × Contains (config_faults ms) flaw) ⊎ IsRefusalOf directory path keys ms None
IsReadRefusal directory path keys ms (Some e) = (config_faults ms ≡ []) × IsRefusalOf directory path keys ms (Some e)

-- there are none where the file has a root
abbrev pub AreWithRoot : Option (List ℕ) → List ℕ → List ℕ → Members → List ValueFault → Type 0
AreWithRoot (Some root) directory path ms found = found ≡ []
AreWithRoot None directory path ms found = AreJudged (IsReadRefusal directory path) ms (keys_of looked_at ms) found

-- the keys of a file at a path whose values can't be resolved, each by itself, where the file has no root
abbrev pub AreUnresolved : List ℕ → List ℕ → Members → List ValueFault → Type 0
AreUnresolved directory path ms found = AreWithRoot (above_file path) directory path ms found
