-- The answer that problems come to: the text, the counts and the exit status.
use Rattle.std.specs.Prelude.{◌≡◌, ◌⊎◌, ℕ, Bool, ◌==◌, ◌&&◌, List, [], Result, Ok, Err, Vec}
use Rattle.std.specs.declared.alloc.Global.{Global}
use Rattle.cc2_error.specs.Causes.{Refusal, memory, plain, refusal_of}
use Rattle.cc2_error.specs.declared.error.Error.{Error}
use Rattle.cc2_cli.specs.Answers.{answer_text, Refuses}
use Rattle.cc2_reports.specs.Grades.{counts_of, status_for}
use Rattle.cc2_reports.specs.Printed.{printed}
use Rattle.cc2_reports.specs.Problems.{Problem, problems_of}
use Rattle.cc2_reports.specs.declared.answer.Linted.{Linted}
use Rattle.cc2_reports.specs.declared.answer.Printing.{Printing}
use Rattle.cc2_reports.specs.declared.level.Level.{Level}
use Rattle.cc2_reports.specs.declared.report.Report.{Report}

-- the text, and the counts and the status of these problems
pub record IsReported (text : List ℕ) (deny : Level) (ps : List Problem) (r : Linted) : Type 0 where
  pub text_is : answer_text r.answer ≡ text
  pub counts : r.counts ≡ counts_of ps
  pub status : r.answer.status ≡ status_for deny ps

-- the lines are those of the error or of running out of memory, the status is 1, and no problem is counted
pub record IsRefusedBy (refusal : Refusal) (r : Linted) : Type 0 where
  pub answer : Refuses refusal r.answer
  pub counts : r.counts ≡ counts_of []

-- the problems are printed, counted and graded; or memory ran out
abbrev pub IsAnswered : Printing → List Problem → Linted → Type 0
IsAnswered p ps r = IsReported (printed p.format p.is_coloured ps) p.deny ps r ⊎ IsRefusedBy (plain memory) r

-- the answer with the problems that were found, or with the error in their place
abbrev pub IsAnswerFor : Printing → Result (Vec Report Global) Error → Linted → Type 0
IsAnswerFor p (Ok reports) r = IsAnswered p (problems_of reports.items) r
IsAnswerFor p (Err e) r = IsRefusedBy (refusal_of e) r

-- the status is 1 and no problem is counted
abbrev pub is_refused : Linted → Bool
is_refused r = (((r.answer.status == 1) && (r.counts.errors == 0)) && (r.counts.warnings == 0)) && (r.counts.notes == 0)
