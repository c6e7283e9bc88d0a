pub mod Configs
pub mod Loads
pub mod Messages
pub mod WithEnv
-- what the contracts of this crate cite of the crates below it, so that a caller lists this crate alone
pub use Rattle.cc2_base.specs.Homes
pub use Rattle.cc2_base.specs.Told
pub use Rattle.cc2_base.specs.ToldPrograms
pub use Rattle.cc2_base.specs.declared.machine.Machine
pub use Rattle.cc2_cargo.specs.Raw
pub use Rattle.cc2_cargo.specs.RealPaths
pub use Rattle.cc2_cargo_settings.specs.EnvVariables
pub use Rattle.cc2_cargo_settings.specs.Under
pub use Rattle.cc2_cargo_target.specs.HostArtifacts
pub use Rattle.cc2_cargo_target.specs.Outcomes as OneOf
pub use Rattle.cc2_cargo_target.specs.Target
pub use Rattle.cc2_cargo_target.specs.Targets
pub use Rattle.cc2_error.specs.Causes
pub use Rattle.cc2_error.specs.Commands
pub use Rattle.cc2_error.specs.Outcomes
pub use Rattle.cc2_rustc.specs.AskedVersions as VersionsAsked
pub use Rattle.cc2_resolved.specs.TargetConfigs
