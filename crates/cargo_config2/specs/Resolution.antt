-- A configuration under the variables of its context, resolved.
use Rattle.std.specs.Prelude.{◌≡◌, ℕ, List, [], ◌∷◌, codes, Option, string_bytes}
use Rattle.cc2_error.specs.Causes.{Refusal}
use Rattle.cc2_value.specs.Cells.{field, KeyPath, Cell}
use Rattle.cc2_de.specs.Config.{config_at}
use Rattle.cc2_de.specs.declared.configured.Configured.{Configured}
use Rattle.cc2_resolved.specs.Rows.{by_row, IsResolved, IsRefusedSo}
use Rattle.cc2_resolved.specs.Sites.{site_in}
use Rattle.cc2_resolved_tables.specs.Tables.{tables_rows}
use Rattle.cargo_config2.specs.Config.{shown, targets_in, marks_in}
use Rattle.cc2_rustc.specs.Kept.{IsNothingKept}
use Rattle.cargo_config2.specs.Kept.{IsNoTargetKept}
use Rattle.cargo_config2.specs.declared.config.Config.{Config}

-- c shows what resolution makes, in a directory, of the cells of m; of the tables of targets and of the
-- marks it keeps the cells
pub record IsResolutionOfCells (directory : List ℕ) (m : KeyPath → Option Cell) (c : Config) : Type 0 where
  pub tables : IsResolved (by_row tables_rows) (site_in directory m) m (shown c)
  pub targets : (p : KeyPath) → targets_in c p ≡ m (field (codes "target") ∷ p)
  pub marks : marks_in c ≡ m []

-- a setting is refused
abbrev pub IsUnresolvedCell : List ℕ → (KeyPath → Option Cell) → Refusal → Type 0
IsUnresolvedCell directory m refusal = IsRefusedSo (by_row tables_rows) (site_in directory m) m refusal

abbrev pub directory_of : Configured → List ℕ
directory_of configured = string_bytes configured.context.current_dir

-- the same of what was loaded; nothing is kept of queries
pub record IsResolutionOf (configured : Configured) (c : Config) : Type 0 where
  pub cells : IsResolutionOfCells (directory_of configured) (config_at configured.config) c
  pub context : c.loaded.context ≡ configured.context
  pub nothing_kept : IsNothingKept c.kept
  pub no_targets : IsNoTargetKept c

abbrev pub IsUnresolved : Configured → Refusal → Type 0
IsUnresolved configured refusal = IsUnresolvedCell (directory_of configured) (config_at configured.config) refusal
