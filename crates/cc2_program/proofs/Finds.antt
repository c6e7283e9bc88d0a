-- What `lint` writes of what is found, by the answer of the library.
use Rattle.std.proofs.Common.{◌≡◌, ◌⊎◌, inl, inr, ℕ, List, ◌++◌, Bool, subst}
use Rattle.cc2_command_line.specs.Commands.{Lint}
use Rattle.cc2_base.specs.Told.{Tree}
use Rattle.cc2_base.specs.ToldPrograms.{Answers}
use Rattle.cc2_base.specs.declared.machine.Machine.{Machine}
use Rattle.cc2_cargo.specs.RealPaths.{RealPathMap}
use Rattle.cc2_program.specs.LintAnswers.{AreComparedIf}
use Rattle.cc2_error.specs.Causes.{Refusal, memory, plain}
use Rattle.cc2_lint.specs.Answers.{IsAnswerAbout}
use Rattle.cc2_lint.specs.Listed.{AreReportsFor, IsQuestionCause}
use Rattle.cc2_program.specs.Lints.{SaysAll, SaysError, SaysThese}
use Rattle.cc2_program.proofs.Linted.{these_as}
use Rattle.cc2_reports.specs.Answers.{IsAnswered, IsRefusedBy}
use Rattle.cc2_reports.specs.Problems.{Problem, problems_of}
use Rattle.cc2_reports.specs.Selected.{reported_among}
use Rattle.cc2_reports.specs.declared.answer.Linted.{Linted}
use Rattle.cc2_reports.specs.declared.answer.Printing.{Printing}
use Rattle.cc2_reports.specs.declared.report.Report.{Report}
use Rattle.cc2_show_answers.specs.ToldRuns.{Written}
use Rattle.cargo_rules.specs.WithEnv.{AnswersWith}

module _ (fs : Tree) (reals : RealPathMap → Type 0) (runs : AnswersWith → Type 0) (answers : Answers) (is_open : List ℕ → Bool) (machine : Machine)
    (paths : List (List ℕ)) where
  module _ (targets ts : List (List ℕ)) (dir d : List ℕ) (same_targets : targets ≡ ts) (same_dir : dir ≡ d) where
    -- a cause of the same question
    why_as : (refusal : Refusal) → IsQuestionCause fs answers machine targets dir paths refusal ⊎ (refusal ≡ plain memory)
        → IsQuestionCause fs answers machine ts d paths refusal ⊎ (refusal ≡ plain memory)
    why_as refusal (inl cause) =
        inl (subst (λ (x : List (List ℕ)). IsQuestionCause fs answers machine x d paths refusal) same_targets
        (subst (λ (x : List ℕ). IsQuestionCause fs answers machine targets x paths refusal) same_dir cause))
    why_as refusal (inr out) = inr out

    -- reports of the same question
    all_as : (found : List Report) → AreReportsFor fs answers is_open machine targets dir paths found
        → AreReportsFor fs answers is_open machine ts d paths found
    all_as found all =
        subst (λ (x : List (List ℕ)). AreReportsFor fs answers is_open machine x d paths found) same_targets
        (subst (λ (x : List ℕ). AreReportsFor fs answers is_open machine targets x paths found) same_dir all)

  module _ (l : Lint) (targets : List (List ℕ)) (dir d : List ℕ) (p q : Printing) (allowed : List (List ℕ)) (s t : Bool) (r : Linted) (w : Written)
      (same_targets : targets ≡ l.targets) (same_dir : dir ≡ d) (printing : p ≡ q) (same_allowed : allowed ≡ l.allowed) (summed : s ≡ t)
      (these : (problems : List Problem) → IsAnswered p (reported_among allowed problems) r → SaysThese p allowed s problems w)
      (error : (refusal : Refusal) → IsRefusedBy refusal r → SaysError refusal w) where
    pub says_all : IsAnswerAbout
        (λ problems. (found : List Report) × (compared : List Report) × AreReportsFor fs answers is_open machine targets dir paths found
        × AreComparedIf l.compares fs reals runs machine targets dir paths compared × (problems ≡ problems_of found ++ problems_of compared))
        (λ refusal. IsQuestionCause fs answers machine targets dir paths refusal ⊎ (refusal ≡ plain memory)) p allowed r
        → SaysAll fs answers is_open machine d paths reals runs q l t w
    says_all (inl h) = inl (h.0, why_as targets l.targets dir d same_targets same_dir h.0 h.1, error h.0 h.2)
    says_all (inr (problems, (found, compared, in_files, in_directories, are), answered)) =
        inr (
          found,
          compared,
          all_as targets l.targets dir d same_targets same_dir found in_files,
          subst (λ (x : List (List ℕ)). AreComparedIf l.compares fs reals runs machine x d paths compared) same_targets
              (subst (λ (x : List ℕ). AreComparedIf l.compares fs reals runs machine targets x paths compared) same_dir in_directories),
          these_as p q allowed l.allowed s t problems (problems_of found ++ problems_of compared) w printing same_allowed summed are
              (these problems answered),
        )
