-- What `lint` writes.
use Rattle.std.specs.Prelude.{◌≡◌, ◌⊎◌, ℕ, Bool, true, false, not, ◌==◌, List, [], ◌∷◌, ◌++◌, codes, decimal, find, Option, Some, None, if◌then◌else◌}
use Rattle.std.specs.List.{join_by}
use Rattle.cc2_command_line.specs.Commands.{Lint}
use Rattle.cc2_command_line.specs.Messages.{tip}
use Rattle.cc2_command_line.specs.Nearest.{nearest}
use Rattle.cc2_command_line.specs.declared.choice.Level.{Level as ChosenLevel}
use Rattle.cc2_command_line.specs.declared.choice.Level.TheVariants as chosen
use Rattle.cc2_command_line.specs.declared.choice.LintFormat.{LintFormat}
use Rattle.cc2_command_line.specs.declared.choice.LintFormat.TheVariants as format
use Rattle.cc2_base.specs.Told.{Tree}
use Rattle.cc2_base.specs.ToldPrograms.{Answers}
use Rattle.cc2_base.specs.declared.machine.Machine.{Machine}
use Rattle.cc2_cargo.specs.RealPaths.{RealPathMap}
use Rattle.cc2_program.specs.LintAnswers.{AreComparedIf}
use Rattle.cc2_error.specs.Causes.{Refusal, memory, plain}
use Rattle.cc2_cli.specs.Endings.{refusal_lines}
use Rattle.cc2_lint.specs.Listed.{AreReportsFor, IsQuestionCause}
use Rattle.cc2_program.specs.Streams.{failed}
use Rattle.cc2_reports.specs.Grades.{counts_of, status_for}
use Rattle.cc2_reports.specs.Lints.{is_lint, lint_names}
use Rattle.cc2_reports.specs.Printed.{printed}
use Rattle.cc2_reports.specs.Problems.{Problem, problems_of}
use Rattle.cc2_reports.specs.Selected.{reported_among}
use Rattle.cc2_reports.specs.declared.answer.Printing.{Printing}
use Rattle.cc2_reports.specs.declared.format.Format.{Format}
use Rattle.cc2_reports.specs.declared.format.Format.TheVariants as printed_as
use Rattle.cc2_reports.specs.declared.grade.Counts.{Counts}
use Rattle.cc2_reports.specs.declared.level.Level.{Level}
use Rattle.cc2_reports.specs.declared.level.Level.TheVariants as level
use Rattle.cc2_reports.specs.declared.report.Report.{Report}
use Rattle.cc2_show_answers.specs.ToldRuns.{Written}
use Rattle.cargo_rules.specs.WithEnv.{AnswersWith}

abbrev pub level_of : ChosenLevel → Level
level_of chosen.Note = level.Note
level_of chosen.Warning = level.Warning
level_of chosen.Error = level.Error

abbrev pub format_of : LintFormat → Format
format_of format.Text = printed_as.Text
format_of format.Json = printed_as.Json
format_of format.Sarif = printed_as.Sarif

-- how the findings are printed, and from which level on the status is 1
abbrev pub printing_for : Bool → Lint → Printing
printing_for is_coloured l =
    record { format = format_of l.format; is_coloured = is_coloured; deny = level_of l.deny }

-- the first word that isn't the name of a lint
abbrev pub first_unknown : List (List ℕ) → Option (List ℕ)
first_unknown words = find (λ word. not (is_lint word)) words

-- the error of a word that isn't the name of a lint, with a similar one if there is one
abbrev pub unknown_with : List ℕ → List ℕ → List ℕ
unknown_with word hint =
    codes "error: no such lint: `" ++ (word ++ (codes "`\n" ++ (hint
    ++ codes "\nFor more information, try `cargo config2 lint --help`.\n")))

abbrev pub unknown_lint : List ℕ → List ℕ
unknown_lint word = unknown_with word (tip (nearest word lint_names))

-- the ending of a word for so many
abbrev pub plural : ℕ → List ℕ
plural count = if count == 1 then [] else codes "s"

-- how many findings of a level there are, if there are any
abbrev pub count_part : ℕ → List ℕ → List (List ℕ)
count_part count name =
    if count == 0 then [] else (decimal count ++ (codes " " ++ (name ++ plural count))) ∷ []

abbrev pub counted_parts : Counts → List (List ℕ)
counted_parts c =
    (count_part c.errors (codes "error") ++ count_part c.warnings (codes "warning")) ++ count_part c.notes (codes "note")

-- the parts in one line
abbrev pub counted_line : List (List ℕ) → List ℕ
counted_line [] = []
counted_line (part ∷ parts) = join_by (λ p. p) (codes ", ") (part ∷ parts) ++ codes "\n"

-- how many findings there are of each level
abbrev pub summary : Counts → List ℕ
summary c = counted_line (counted_parts c)

-- findings are summed up where they are text, unless that is left out
abbrev pub has_summary : LintFormat → Bool → Bool
has_summary format.Text quiet = not quiet
has_summary format.Json quiet = false
has_summary format.Sarif quiet = false

-- the summary, unless it is left out
abbrev pub summary_for : Bool → Counts → List ℕ
summary_for true c = summary c
summary_for false c = []

-- these problems on standard output and their summary on standard error; the status is 1 exactly where one is at the
-- denied level or above it
abbrev pub problems_said : Printing → Bool → List Problem → Written
problems_said p is_summed ps = record {
  out = printed p.format p.is_coloured ps;
  err = summary_for is_summed (counts_of ps);
  status = status_for p.deny ps;
}

-- the problems that are found, each once, without those of the lints that are allowed; or an error in their place
pub data SaysFound (p : Printing) (allowed : List (List ℕ)) (is_summed : Bool) (w : Written) : Type 0 where
  found : (problems : List Problem) → w ≡ problems_said p is_summed (reported_among allowed problems)
      → SaysFound p allowed is_summed w
  refused : (refusal : Refusal) → w ≡ failed (refusal_lines refusal) 1 → SaysFound p allowed is_summed w

-- an unknown lint is an error with the status 2
pub data LintGives (is_coloured : Bool) (l : Lint) (quiet : Bool) (w : Written) : Type 0 where
  unknown : (word : List ℕ) → first_unknown l.allowed ≡ Some word → w ≡ failed (unknown_lint word) 2
      → LintGives is_coloured l quiet w
  known : first_unknown l.allowed ≡ None
      → SaysFound (printing_for is_coloured l) l.allowed (has_summary l.format quiet) w
      → LintGives is_coloured l quiet w

-- the error of a refusal, or that memory ran out
abbrev pub SaysError : Refusal → Written → Type 0
SaysError refusal w =
    (stated : Refusal) × ((stated ≡ refusal) ⊎ (stated ≡ plain memory)) × (w ≡ failed (refusal_lines stated) 1)

-- these problems, each once, without those of the lints that are allowed; or that memory ran out
abbrev pub SaysThese : Printing → List (List ℕ) → Bool → List Problem → Written → Type 0
SaysThese p allowed is_summed problems w =
    (w ≡ problems_said p is_summed (reported_among allowed problems)) ⊎ SaysError (plain memory) w

module _ (fs : Tree) (answers : Answers) (is_open : List ℕ → Bool) (machine : Machine) (dir : List ℕ) (paths : List (List ℕ)) where
  -- what is found at these paths, or in the directory where there are none, and behind it what is found by comparing
  -- directories, where that is asked for; or the error of why nothing is looked for
  abbrev pub SaysAll : (RealPathMap → Type 0) → (AnswersWith → Type 0) → Printing → Lint → Bool → Written → Type 0
  SaysAll reals runs p l is_summed w =
      ((refusal : Refusal) × (IsQuestionCause fs answers machine l.targets dir paths refusal ⊎ (refusal ≡ plain memory)) × SaysError refusal w)
      ⊎ ((found : List Report) × (compared : List Report) × AreReportsFor fs answers is_open machine l.targets dir paths found
      × AreComparedIf l.compares fs reals runs machine l.targets dir paths compared
      × SaysThese p l.allowed is_summed (problems_of found ++ problems_of compared) w)

  -- the same; an unknown lint is an error with the status 2
  abbrev pub LintFinds : (RealPathMap → Type 0) → (AnswersWith → Type 0) → Bool → Lint → Bool → Written → Type 0
  LintFinds reals runs is_coloured l quiet w =
      ((word : List ℕ) × (first_unknown l.allowed ≡ Some word) × (w ≡ failed (unknown_lint word) 2))
      ⊎ ((first_unknown l.allowed ≡ None)
      × SaysAll reals runs (printing_for is_coloured l) l (has_summary l.format quiet) w)
