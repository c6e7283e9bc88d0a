-- The answer to a question, by what is found.
use Rattle.std.specs.Prelude.{◌≡◌, ◌⊎◌, ℕ, Bool, List, map, string_bytes}
use Rattle.cc2_error.specs.Causes.{Refusal, memory, plain}
use Rattle.cc2_base.specs.Told.{Tree}
use Rattle.cc2_base.specs.ToldPrograms.{Answers}
use Rattle.cc2_base.specs.declared.machine.Machine.{Machine}
use Rattle.cc2_lint.specs.Listed.{AreReportsFor, IsQuestionCause}
use Rattle.cc2_lint.specs.declared.question.Question.{Question}
use Rattle.cc2_reports.specs.Answers.{IsAnswered, IsRefusedBy}
use Rattle.cc2_reports.specs.Problems.{Problem, problems_of}
use Rattle.cc2_reports.specs.Selected.{reported_among}
use Rattle.cc2_reports.specs.declared.answer.Linted.{Linted}
use Rattle.cc2_reports.specs.declared.answer.Printing.{Printing}
use Rattle.cc2_reports.specs.declared.report.Report.{Report}

-- how the problems are printed
abbrev pub printing_of : Question → Printing
printing_of q = record { format = q.format; is_coloured = q.is_coloured; deny = q.deny }

-- the lints that are left out
abbrev pub allowed_of : Question → List (List ℕ)
allowed_of q = map (λ word. word.now) q.allowed.now

-- the problems that are reported are printed, counted and graded, or there is an error in their place
abbrev pub IsAnswerBy : Printing → List (List ℕ) → Linted → Type 0
IsAnswerBy printing allowed r =
    ((refusal : Refusal) × IsRefusedBy refusal r)
    ⊎ ((found : List Problem) × IsAnswered printing (reported_among allowed found) r)

-- the same of problems and refusals that are such
abbrev pub IsAnswerAbout : (List Problem → Type 0) → (Refusal → Type 0) → Printing → List (List ℕ) → Linted → Type 0
IsAnswerAbout Are Is printing allowed r =
    ((refusal : Refusal) × Is refusal × IsRefusedBy refusal r)
    ⊎ ((found : List Problem) × Are found × IsAnswered printing (reported_among allowed found) r)

-- of some problems those whose lint isn't allowed, and each once
abbrev pub AreChosen : Question → List Report → Type 0
AreChosen q reports = (found : List Problem) × (problems_of reports ≡ reported_among (allowed_of q) found)

-- why nothing is looked for: there is a cause, or memory ran out
abbrev pub IsWhyNot : Tree → Answers → Machine → Question → Refusal → Type 0
IsWhyNot fs answers machine q refusal =
    IsQuestionCause fs answers machine (map (λ text. text.now) q.targets.now) q.dir.now (map string_bytes q.paths.now) refusal
    ⊎ (refusal ≡ plain memory)

module _ (fs : Tree) (answers : Answers) (is_open : List ℕ → Bool) (machine : Machine) (q : Question) where
  -- these are the reports of what is found
  abbrev pub AreAll : List Report → Type 0
  AreAll found =
      AreReportsFor fs answers is_open machine (map (λ text. text.now) q.targets.now) q.dir.now (map string_bytes q.paths.now) found

  -- of the reports that are found those whose lint isn't allowed, and each once
  abbrev pub AreReported : List Report → Type 0
  AreReported reports =
      (found : List Report) × AreAll found × (problems_of reports ≡ reported_among (allowed_of q) (problems_of found))
