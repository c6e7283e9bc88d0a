-- What is reported of directories and files.
use Rattle.std.specs.Prelude.{◌≡◌, ◌⊎◌, ℕ, Bool, true, false, List, [], ◌∷◌, ◌++◌, map, codes, is_some, Contains, Option, Some, None, Result, Ok, Err}
use Rattle.toml.specs.Data.{Members}
use Rattle.cc2_error.specs.Causes.{Refusal, plain, spec_name}
use Rattle.cc2_base.specs.Homes.{cargo_home_of}
use Rattle.cc2_base.specs.Told.{Tree}
use Rattle.cc2_base.specs.ToldPrograms.{Answers}
use Rattle.cc2_base.specs.Walked.{walked}
use Rattle.cc2_base.specs.declared.machine.Machine.{Machine}
use Rattle.cc2_findings.specs.Dirs.{is_directory, path_of, AreOfWalk, IsOfFile as IsLintedFile}
use Rattle.cc2_findings.specs.declared.dir.LintedFile.{LintedFile}
use Rattle.cc2_lint_settings.specs.Keys.{Hidden, AreHidden}
use Rattle.cc2_resolved.specs.Targets.{Target, target_of}
use Rattle.cc2_lint_settings.specs.Asked.{AreRivals, IsUntold}
use Rattle.cc2_lint_settings.specs.Rivals.{Rival}
use Rattle.cc2_lint_settings.specs.Views.{table_of}
use Rattle.cc2_reports.specs.Each.{AreOfEach}
use Rattle.cc2_reports.specs.declared.report.Report.{Report}
use Rattle.cc2_lint.specs.Files.{AreReportsOfAll}

-- the home, where it is known
abbrev pub known_home : Result (Option (List ℕ)) Refusal → Option (List ℕ)
known_home (Ok home) = home
known_home (Err refusal) = None

module _ (fs : Tree) (answers : Answers) (machine : Machine) (dir : List ℕ) where
  -- for a target the keys of each of the files of a directory that match it beside another key
  abbrev pub IsOfTarget : List Members → List ℕ → List (List (List Rival)) → Type 0
  IsOfTarget files text part =
      (t : Target) × (found : List (List Rival)) × (target_of text ≡ Some t) × (part ≡ found ∷ [])
      × AreRivals fs answers machine dir t files found

  -- why these aren't known for a target: the text isn't one, or rustc doesn't answer for it
  abbrev pub IsMatchCause : List ℕ → Refusal → Type 0
  IsMatchCause text refusal =
      ((target_of text ≡ None) × (refusal ≡ plain spec_name))
      ⊎ ((t : Target) × (target_of text ≡ Some t) × IsUntold fs answers machine dir t refusal)

  -- why they aren't known for these targets
  abbrev pub IsMatchesCause : List (List ℕ) → Refusal → Type 0
  IsMatchesCause targets refusal = (text : List ℕ) × Contains targets text × IsMatchCause text refusal

  -- why nothing is reported of a directory: its cargo home isn't known, or a target's keys aren't
  abbrev pub IsDirectoryCause : List (List ℕ) → Refusal → Type 0
  IsDirectoryCause targets refusal = (cargo_home_of dir machine ≡ Err refusal) ⊎ IsMatchesCause targets refusal

module _ (fs : Tree) (is_open : List ℕ → Bool) (machine : Machine) where
  -- the reports of a file that is checked alone, seen from a directory
  abbrev pub IsOfFileAlone : List ℕ → List ℕ → List Report → Type 0
  IsOfFileAlone dir path reports =
      (file : LintedFile) × (hidden : List (List Hidden)) × (path_of file ≡ path) × IsLintedFile fs file
      × AreHidden machine (table_of file ∷ []) hidden
      × AreReportsOfAll
      (record { tree = fs; dir = dir; files = file ∷ []; hidden = hidden; rivals = []; home = known_home (cargo_home_of dir machine); is_open = is_open })
      0 (file ∷ []) reports

module _ (fs : Tree) (answers : Answers) (is_open : List ℕ → Bool) (machine : Machine) where
  -- the reports of a directory: of its configuration files, those of its ancestors and those of the cargo home
  abbrev pub IsOfDirectory : List (List ℕ) → List ℕ → List Report → Type 0
  IsOfDirectory targets dir reports =
      (home : Option (List ℕ)) × (linted : List LintedFile) × (hidden : List (List Hidden)) × (rivals : List (List (List Rival)))
      × (cargo_home_of dir machine ≡ Ok home) × AreOfWalk fs (walked fs dir home) linted
      × AreHidden machine (map table_of linted) hidden
      × AreOfEach (IsOfTarget fs answers machine dir (map table_of linted)) targets rivals
      × AreReportsOfAll
      (record { tree = fs; dir = dir; files = linted; hidden = hidden; rivals = rivals; home = home; is_open = is_open })
      0 linted reports

  abbrev pub IsOfPath : List (List ℕ) → List ℕ → List ℕ → List Report → Type 0
  IsOfPath targets dir path reports =
      ((is_directory fs path ≡ true) × IsOfDirectory targets path reports)
      ⊎ ((is_directory fs path ≡ false) × IsOfFileAlone fs is_open machine dir path reports)

  -- the reports of these paths, one after another; of the directory where there are none
  abbrev pub AreReportsFor : List (List ℕ) → List ℕ → List (List ℕ) → List Report → Type 0
  AreReportsFor targets dir [] reports = IsOfDirectory targets dir reports
  AreReportsFor targets dir (path ∷ paths) reports = AreOfEach (IsOfPath targets dir) (path ∷ paths) reports

-- why nothing is reported of these paths: there is a cause for one of the directories
abbrev pub IsQuestionCause : Tree → Answers → Machine → List (List ℕ) → List ℕ → List (List ℕ) → Refusal → Type 0
IsQuestionCause fs answers machine targets dir [] refusal = IsDirectoryCause fs answers machine dir targets refusal
IsQuestionCause fs answers machine targets dir (path ∷ paths) refusal =
    (directory : List ℕ) × Contains (path ∷ paths) directory × (is_directory fs directory ≡ true)
    × IsDirectoryCause fs answers machine directory targets refusal
