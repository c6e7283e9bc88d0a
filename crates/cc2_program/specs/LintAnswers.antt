-- The answer of `lint`: what is found in files, and in directories where these are compared.
use Rattle.std.specs.Prelude.{◌≡◌, ℕ, Bool, true, false, List, [], ◌++◌, map, string_bytes}
use Rattle.cc2_base.specs.Told.{Tree, WhereTold}
use Rattle.cc2_base.specs.ToldPrograms.{Answers}
use Rattle.cc2_base.specs.declared.machine.Machine.{Machine}
use Rattle.cc2_cargo.specs.RealPaths.{RealPathMap}
use Rattle.cc2_lint.specs.Answers.{AreAll, IsAnswerAbout, IsWhyNot, allowed_of, printing_of}
use Rattle.cc2_lint.specs.declared.question.Question.{Question}
use Rattle.cc2_reports.specs.Problems.{Problem, problems_of}
use Rattle.cc2_reports.specs.Selected.{reported_among}
use Rattle.cc2_reports.specs.declared.answer.Linted.{Linted}
use Rattle.cc2_reports.specs.declared.report.Report.{Report}
use Rattle.cargo_rules.specs.WithEnv.{AnswersWith}
use Rattle.cc2_compare.specs.Reports.{AreComparedFor}

-- the reports of these paths where directories are compared, by all real paths that agree; else none
abbrev pub AreComparedIf : Bool → Tree → (RealPathMap → Type 0) → (AnswersWith → Type 0) → Machine → List (List ℕ) → List ℕ → List (List ℕ) → List Report → Type 0
AreComparedIf true fs reals runs machine targets dir paths reports =
    WhereTold reals (λ real_paths. AreComparedFor fs real_paths runs machine targets dir paths reports)
AreComparedIf false fs reals runs machine targets dir paths reports = reports ≡ []

module _ (fs : Tree) (reals : RealPathMap → Type 0) (runs : AnswersWith → Type 0) (answers : Answers) (is_open : List ℕ → Bool) (machine : Machine)
    (q : Question) (compares : Bool) where
  -- what is found in files, and behind it what is found in directories
  abbrev pub AreProblems : List Problem → Type 0
  AreProblems problems =
      (found : List Report) × (compared : List Report) × AreAll fs answers is_open machine q found
      × AreComparedIf compares fs reals runs machine (map (λ text. text.now) q.targets.now) q.dir.now (map string_bytes q.paths.now) compared
      × (problems ≡ problems_of found ++ problems_of compared)

  -- of these those whose lint isn't allowed, and each once
  abbrev pub AreReportedWith : List Report → Type 0
  AreReportedWith reports =
      (problems : List Problem) × AreProblems problems × (problems_of reports ≡ reported_among (allowed_of q) problems)

  -- what is found is printed, counted and graded, without what is allowed; or the error says why nothing is looked for
  abbrev pub IsLintedAnswer : Linted → Type 0
  IsLintedAnswer r = IsAnswerAbout AreProblems (IsWhyNot fs answers machine q) (printing_of q) (allowed_of q) r
