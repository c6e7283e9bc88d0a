-- What is kept of the command for rustc and of its lists, when it agrees and what is not lost.
use Rattle.std.specs.Prelude.{◌≡◌, IsSome}
use Rattle.cc2_error.specs.Commands.{Command}
use Rattle.cc2_base.specs.ToldPrograms.{Answers}
use Rattle.cc2_rustc.specs.ByName.{KeepsNames}
use Rattle.cc2_rustc.specs.CfgSets.{AgreesOnSets}
use Rattle.cc2_rustc.specs.Kept.{IsKeptAs}
use Rattle.cc2_rustc.specs.declared.kept.Kept.{Kept}

-- the command is this one, and each list is what it prints
pub record AgreesOnLists (rustc : Command) (answers : Answers) (kept : Kept) : Type 0 where
  pub command : IsKeptAs kept.rustc rustc
  pub sets : AgreesOnSets rustc answers kept.cfg_sets

-- what was kept is kept, and the versions are as they were
pub record KeepsLists (was kept : Kept) : Type 0 where
  pub rustc : IsSome was.rustc → kept.rustc ≡ was.rustc
  pub versions : kept.versions ≡ was.versions
  pub sets : KeepsNames was.cfg_sets kept.cfg_sets
