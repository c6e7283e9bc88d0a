-- What is reported of a directory of which both configurations are compared, and the settings of targets.
use Rattle.std.specs.Prelude.{◌≡◌, ◌⊎◌, ℕ, length, Bool, true, false, not, ◌==◌, ◌&&◌, List, [], ◌∷◌, ◌++◌, Result, is_ok}
use Rattle.serde_json.specs.Data.{Data}
use Rattle.cc2_base.specs.Told.{Tree, WhereTold}
use Rattle.cc2_base.specs.declared.machine.Machine.{Machine}
use Rattle.cc2_cargo.specs.RealPaths.{RealPathMap}
use Rattle.cc2_error.specs.Causes.{Refusal}
use Rattle.cc2_findings.specs.Dirs.{is_directory}
use Rattle.cc2_reports.specs.Each.{AreOfEach}
use Rattle.cc2_reports.specs.Problems.{Subject, subjects_of}
use Rattle.cc2_reports.specs.declared.report.Report.{Report}
use Rattle.cargo_rules.specs.WithEnv.{AnswersWith}
use Rattle.cc2_compare.specs.Between.{AreBetween}
use Rattle.cc2_compare.specs.Maps.{IsOfCargoFiles, IsOfCrateFiles}
use Rattle.cc2_compare.specs.TargetSettings.{AreTargetsCompared}

-- both accept the configuration, and targets are asked for
abbrev pub are_looked_at : Result Data Refusal → Result Data Refusal → List (List ℕ) → Bool
are_looked_at of_crate of_cargo targets = is_ok of_crate && is_ok of_cargo && not (length targets == 0)

module _ (fs : Tree) (reals : RealPathMap) (runs : AnswersWith → Type 0) (machine : Machine) (targets : List (List ℕ)) where
  -- the settings of targets are compared where that is so, by all answers of programs that agree; else nothing is reported of them
  abbrev pub AreOfTargets : Bool → List ℕ → List Subject → Type 0
  AreOfTargets true dir subjects = WhereTold runs (λ own. AreTargetsCompared fs reals own machine dir targets subjects)
  AreOfTargets false dir subjects = subjects ≡ []

  -- The directory is reported at each key path at which the two configurations differ; once, where one alone refuses it; and not at
  -- all where both do. Behind it is what is reported of its targets.
  pub record AreCompared (dir : List ℕ) (subjects : List Subject) : Type 0 where
    pub of_crate : Result Data Refusal
    pub of_cargo : Result Data Refusal
    pub configs : List Subject
    pub settings : List Subject
    pub is_crate : IsOfCrateFiles fs machine dir of_crate
    pub is_cargo : IsOfCargoFiles fs reals machine dir of_cargo
    pub between : AreBetween dir [] of_crate of_cargo configs
    pub more : AreOfTargets (are_looked_at of_crate of_cargo targets) dir settings
    pub are : subjects ≡ configs ++ settings

  -- the reports of a path: of a directory, or none of a file
  abbrev pub AreOfPath : List ℕ → List Report → Type 0
  AreOfPath path reports =
      ((is_directory fs path ≡ true) × AreCompared path (subjects_of reports))
      ⊎ ((is_directory fs path ≡ false) × (reports ≡ []))

  -- those of these paths, one after another; of the directory where there are none
  abbrev pub AreComparedFor : List ℕ → List (List ℕ) → List Report → Type 0
  AreComparedFor dir [] reports = AreCompared dir (subjects_of reports)
  AreComparedFor dir (path ∷ paths) reports = AreOfEach AreOfPath (path ∷ paths) reports
