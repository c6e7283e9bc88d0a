-- A configuration of what queries read alone.
use Rattle.std.specs.Prelude.{◌≡◌}
use Rattle.cargo_config2.specs.declared.config.Config.{Config}
use Rattle.cargo_config2.specs.declared.queried.Queried.{Queried}

-- the configuration has each part of it
pub record IsOfQueried (q : Queried) (c : Config) : Type 0 where
  pub target : c.loaded.target ≡ q.target
  pub flags : c.loaded.flags_overridden ≡ q.flags_overridden
  pub doc_flags : c.loaded.doc_flags_overridden ≡ q.doc_flags_overridden
  pub rustc : c.build.rustc ≡ q.rustc
  pub wrapper : c.build.rustc_wrapper ≡ q.rustc_wrapper
  pub workspace_wrapper : c.build.rustc_workspace_wrapper ≡ q.rustc_workspace_wrapper
  pub rustflags : c.build.rustflags ≡ q.rustflags
  pub rustdocflags : c.build.rustdocflags ≡ q.rustdocflags
