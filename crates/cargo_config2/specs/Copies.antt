-- A configuration once more.
use Rattle.std.specs.Prelude.{◌≡◌, ℕ, List}
use Rattle.cc2_env.specs.Options.{IsSameContext}
use Rattle.cc2_value.specs.Cells.{KeyPath}
use Rattle.cc2_value.specs.Shown.{map_at}
use Rattle.cc2_target_table.specs.Target.{target_at}
use Rattle.cc2_rustc.specs.Kept.{IsSameKept}
use Rattle.cargo_config2.specs.Config.{shown}
use Rattle.cargo_config2.specs.Targets.{kept_settings}
use Rattle.cargo_config2.specs.declared.config.Config.{Config}
use Rattle.cargo_config2.specs.declared.config.Loaded.{Loaded}

-- queries read the same beside the tables
pub record IsSameLoaded (was loaded : Loaded) : Type 0 where
  pub targets : (p : KeyPath) → map_at target_at loaded.target p ≡ map_at target_at was.target p
  pub flags : loaded.flags_overridden ≡ was.flags_overridden
  pub doc_flags : loaded.doc_flags_overridden ≡ was.doc_flags_overridden
  pub context : IsSameContext was.context loaded.context

-- the tables show the same, queries read the same beside them, and the same is kept, also of targets
pub record IsSameConfig (was c : Config) : Type 0 where
  pub tables : (p : KeyPath) → shown c p ≡ shown was p
  pub loaded : IsSameLoaded was.loaded c.loaded
  pub kept : IsSameKept was.kept c.kept
  pub targets : (name : List ℕ) → kept_settings c.target name ≡ kept_settings was.target name
