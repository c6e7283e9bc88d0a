-- What queries keep of rustc and of versions: nothing, the same once more, and the command as it is stated.
use Rattle.std.specs.Prelude.{◌≡◌, ℕ, List, Option, Some, None, option_map}
use Rattle.std.specs.BTreeMap.{get_by_text}
use Rattle.cc2_error.specs.Commands.{Command, command_of}
use Rattle.cc2_base.specs.Told.{Tree}
use Rattle.cc2_base.specs.ToldPrograms.{Answers}
use Rattle.cc2_error.specs.declared.path_and_args.PathAndArgs.{PathAndArgs}
use Rattle.cc2_rustc.specs.CfgSets.{kept_set}
use Rattle.cc2_rustc.specs.declared.kept.Kept.{Kept}
use Rattle.cc2_rustc.specs.AskedVersions.{IsSameVersions}

pub record IsNothingKept (kept : Kept) : Type 0 where
  pub rustc : kept.rustc ≡ None
  pub versions : kept.versions ≡ record { host = None; rustc = None; cargo = None }
  pub sets : (name : List ℕ) → get_by_text kept.cfg_sets name ≡ None

-- the same is kept
pub record IsSameKept (was kept : Kept) : Type 0 where
  pub rustc : option_map command_of kept.rustc ≡ option_map command_of was.rustc
  pub versions : IsSameVersions was.versions kept.versions
  pub sets : (name : List ℕ) → kept_set kept.cfg_sets name ≡ kept_set was.cfg_sets name

-- a kept command is this one
abbrev pub IsKeptAs : Option PathAndArgs → Command → Type 0
IsKeptAs None command = Unit {0}
IsKeptAs (Some kept) command = command_of kept ≡ command

-- P holds for each tree and all answers that files and programs allow
abbrev pub WhereBothTold : (Tree → Type 0) → (Answers → Type 0) → (Tree → Answers → Type 0) → Type 0
WhereBothTold files programs P = (fs : Tree) (answers : Answers) → files fs → programs answers → P fs answers
