-- Which stream is written: an answer with the status 0 goes to standard output, an error to standard error.
use Rattle.std.specs.Prelude.{◌≡◌, ◌⊎◌, ℕ, List, [], ◌++◌, ◌==◌, true, Option, if◌then◌else◌}
use Rattle.std.specs.Io.KnownBytes.{Appends}
use Rattle.std.specs.Str.{is_utf8}
use Rattle.cc2_error.specs.Causes.{memory, plain, Refusal}
use Rattle.cc2_cli.specs.Answers.{answer_text}
use Rattle.cc2_cli.specs.Endings.{refusal_lines}
use Rattle.cc2_cli.specs.declared.answer.Answer.{Answer}
use Rattle.cc2_reports.specs.Characters.{visible_text}
use Rattle.cc2_show_answers.specs.ToldRuns.{Written}

-- a text on standard output, with the status 0
abbrev pub printed : List ℕ → Written
printed text = record { out = text; err = []; status = 0 }

-- a text on standard error, with this status
abbrev pub failed : List ℕ → ℕ → Written
failed text status = record { out = []; err = text; status = status }

-- the error that memory ran out
abbrev pub out_of_memory : Written
out_of_memory = failed (refusal_lines (plain memory)) 1

-- a text with the status 0 is an answer, with another one an error
abbrev pub by_status : List ℕ → ℕ → Written
by_status text status = if status == 0 then printed text else failed text status

-- the same of what is said of a configuration: with the status 0 it is on standard output, else on standard error
abbrev pub told_streams : Written → Written
told_streams w = if w.status == 0 then w else failed (w.out ++ w.err) w.status

-- with the status 0 nothing is on standard error, and else nothing on standard output
abbrev pub IsOnOneStream : Written → Type 0
IsOnOneStream w = ((w.status ≡ 0) × (w.err ≡ [])) ⊎ (w.out ≡ [])

-- an answer, or the lines of an error with the status 1
abbrev pub IsAnswerOrError : Written → Type 0
IsAnswerOrError w =
    ((text : List ℕ) × (w ≡ printed text))
    ⊎ ((refusal : Refusal) × (w ≡ failed (refusal_lines refusal) 1))

-- the answer has the status 0, or the lines of an error and the status 1
abbrev pub IsFoundOrError : Answer → Type 0
IsFoundOrError answer =
    (answer.status ≡ 0)
    ⊎ ((refusal : Refusal) × (answer_text answer ≡ refusal_lines refusal) × (answer.status ≡ 1))

-- a text as standard error gets it: as a terminal may get it, with its lines
abbrev pub on_terminal : List ℕ → List ℕ
on_terminal text = if is_utf8 text then visible_text true text else text

-- what is appended to two streams, and the status, are so; of standard error it is seen before a terminal gets it
abbrev pub Ends : Option (List ℕ) → Option (List ℕ) → Option (List ℕ) → Option (List ℕ) → ℕ → (Written → Type 0) → Type 0
Ends out new_out err new_err status Gives =
    (w : Written) × (status ≡ w.status) × Appends out new_out w.out × Appends err new_err (on_terminal w.err) × Gives w
