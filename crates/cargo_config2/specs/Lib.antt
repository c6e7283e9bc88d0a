pub mod BuildTarget
pub mod Config
pub mod Copies
pub mod Kept
pub mod Left
pub mod Lent
pub mod Loads
pub mod Queried
pub mod Resolution
pub mod RustcKept
pub mod TargetQueries
pub mod Targets
-- what the contracts of this crate cite of the crates below it, so that a caller lists this crate alone
pub use Rattle.cc2_base.specs.Told
pub use Rattle.cc2_base.specs.ToldPrograms
pub use Rattle.cc2_base.specs.declared.machine.Machine
pub use Rattle.cc2_error.specs.Causes
pub use Rattle.cc2_error.specs.Commands
pub use Rattle.cc2_error.specs.Outcomes
pub use Rattle.cc2_resolved.specs.ShownTargets
pub use Rattle.cc2_resolved.specs.Targets as TargetTexts
pub use Rattle.cc2_resolved.specs.Answers
pub use Rattle.cc2_rustc.specs.CfgSets
pub use Rattle.cc2_rustc.specs.Kept as KeptOfRustc
pub use Rattle.cc2_target.specs.Settings
pub use Rattle.cc2_resolved.specs.TargetConfigs
pub use Rattle.cc2_rustc.specs.AskedVersions as VersionsAsked
