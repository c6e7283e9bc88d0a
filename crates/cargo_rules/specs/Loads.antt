-- What the files of a directory have at each key by Cargo's own rules: with those that they include, and under the
-- overrides of the command line. Cargo Reference, Configuration, hierarchical structure, including extra configuration files,
-- command-line overrides.
use Rattle.std.specs.Prelude.{◌≡◌, ℕ, List, Option, Result, Ok, Err}
use Rattle.cc2_error.specs.Causes.{Refusal}
use Rattle.cc2_base.specs.Told.{Tree}
use Rattle.cc2_base.specs.Walked.{walked}
use Rattle.cc2_cargo.specs.Loads.{IsOutOfMemory, IsRawLoad, IsRawLoadCause}
use Rattle.cc2_cargo.specs.Overrides.{IsLoadWith, IsLoadWithCause}
use Rattle.cc2_cargo.specs.Raw.{Path, RawCell}
use Rattle.cc2_cargo.specs.RealHomes.{home_beside}
use Rattle.cc2_cargo.specs.RealPaths.{RealPathMap}
use Rattle.cc2_cargo.specs.declared.load.LoadFault.{LoadFault}
use Rattle.cargo_rules.specs.Messages.{refusal_for}

-- what the files of a directory, its ancestors and the home that was found have at each key, with those that they include
abbrev pub IsCargoMap : Tree → RealPathMap → List ℕ → Result (Option (List ℕ)) Refusal → (Path → Option RawCell) → Type 0
IsCargoMap fs reals dir (Ok home) look = IsRawLoad fs (walked fs dir (home_beside reals dir home)) look
IsCargoMap fs reals dir (Err refusal) look = ⊥

-- why these files aren't loaded
pub record IsLoadError (fs : Tree) (paths : List (List ℕ)) (refusal : Refusal) : Type 0 where
  pub fault : LoadFault
  pub cause : IsRawLoadCause fs paths fault
  pub is_known : ¬ (IsOutOfMemory fault)
  pub printed : refusal ≡ refusal_for fault

-- the home isn't found, or the files aren't loaded
abbrev pub IsCargoCause : Tree → RealPathMap → List ℕ → Result (Option (List ℕ)) Refusal → Refusal → Type 0
IsCargoCause fs reals dir (Ok home) refusal = IsLoadError fs (walked fs dir (home_beside reals dir home)) refusal
IsCargoCause fs reals dir (Err found) refusal = refusal ≡ found

-- what the files of a directory, its ancestors and the home that was found have, under these overrides
abbrev pub IsMapUnder : Tree → RealPathMap → List ℕ → List (List ℕ) → Result (Option (List ℕ)) Refusal → (Path → Option RawCell) → Type 0
IsMapUnder fs reals dir os (Ok home) look = IsLoadWith fs dir (walked fs dir (home_beside reals dir home)) os look
IsMapUnder fs reals dir os (Err refusal) look = ⊥

-- why these files and overrides aren't loaded
pub record IsErrorUnder (fs : Tree) (dir : List ℕ) (paths os : List (List ℕ)) (refusal : Refusal) : Type 0 where
  pub fault : LoadFault
  pub cause : IsLoadWithCause fs dir paths os fault
  pub is_known : ¬ (IsOutOfMemory fault)
  pub printed : refusal ≡ refusal_for fault

-- the home isn't found, or the files and overrides aren't loaded
abbrev pub IsCauseUnder : Tree → RealPathMap → List ℕ → List (List ℕ) → Result (Option (List ℕ)) Refusal → Refusal → Type 0
IsCauseUnder fs reals dir os (Ok home) refusal = IsErrorUnder fs dir (walked fs dir (home_beside reals dir home)) os refusal
IsCauseUnder fs reals dir os (Err found) refusal = refusal ≡ found
