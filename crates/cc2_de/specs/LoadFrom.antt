-- What a load answers.
use Rattle.std.specs.Prelude.{◌≡◌, ℕ, List, Option, Result, Ok, Err}
use Rattle.cc2_error.specs.Causes.{Refusal}
use Rattle.cc2_error.specs.Outcomes.{Answered}
use Rattle.cc2_base.specs.Told.{Tree}
use Rattle.cc2_base.specs.Walked.{walked}
use Rattle.cc2_error.specs.declared.error.Error.{Error}
use Rattle.cc2_value.specs.Cells.{Cell, KeyPath, IsMapOf}
use Rattle.cc2_de.specs.declared.config.Config.{Config}
use Rattle.cc2_de.specs.Config.{config_at}
use Rattle.cc2_de.specs.ConfigFile.{file_at}
use Rattle.cc2_de.specs.LoadCauses.{AreConfigs, IsLoadCause}

-- the files are configurations, and m is their pointwise map, the nearest first
abbrev pub IsLoad : Tree → List (List ℕ) → (KeyPath → Option Cell) → Type 0
IsLoad fs paths m = AreConfigs fs paths × IsMapOf (file_at fs) paths m

-- of these files, nearest first: their pointwise map, where there is no cause; else a cause
abbrev pub IsLoadOf : Tree → List (List ℕ) → Result Config Error → Type 0
IsLoadOf fs paths result = Answered config_at result (IsLoad fs paths) (IsLoadCause fs paths)

-- the files from the directory upwards, and of the home that was found, are configurations, and m is
-- their pointwise map
abbrev pub IsLoadFrom : Tree → List ℕ → Result (Option (List ℕ)) Refusal → (KeyPath → Option Cell) → Type 0
IsLoadFrom fs cwd (Ok home) m = IsLoad fs (walked fs cwd home) m
IsLoadFrom fs cwd (Err refusal) m = ⊥

-- the home is refused, or the load is
abbrev pub IsLoadFromCause : Tree → List ℕ → Result (Option (List ℕ)) Refusal → Refusal → Type 0
IsLoadFromCause fs cwd (Ok home) refusal = IsLoadCause fs (walked fs cwd home) refusal
IsLoadFromCause fs cwd (Err found) refusal = refusal ≡ found

-- of a directory whose cargo home is still to be found
abbrev pub IsLoadBelow : Tree → List ℕ → Result (Option (List ℕ)) Refusal → Result Config Error → Type 0
IsLoadBelow fs cwd home result = Answered config_at result (IsLoadFrom fs cwd home) (IsLoadFromCause fs cwd home)
