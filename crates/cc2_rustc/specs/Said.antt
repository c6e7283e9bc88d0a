-- What a program said to a command: the text of its standard output, or why there is none.
use Rattle.std.specs.Prelude.{ℕ, ℤ, pos, Bool, false, if◌then◌else◌, List, [], ◌∷◌, codes, Option, Some, None, Result, Ok, Err}
use Rattle.std.specs.Ordering.{int_eq}
use Rattle.std.specs.Str.{is_utf8}
use Rattle.cc2_error.specs.Causes.{Cause, Refusal, plain, not_run, program_failed, output_not_text}
use Rattle.cc2_error.specs.Commands.{Command, with_args}
use Rattle.cc2_base.specs.ToldPrograms.{Answers, Output}
use Rattle.cc2_rustc.specs.LineEnds.{without_line_ends}

-- the program ended by itself, with the status 0
abbrev pub is_success : Option ℤ → Bool
is_success (Some code) = int_eq code (pos 0)
is_success None = false

-- why a program that didn't end so has said nothing
abbrev pub failure : Command → Option Output → Cause
failure c None = not_run c
failure c (Some output) = program_failed c output.code output.stdout output.stderr

abbrev pub ended_well : Option Output → Bool
ended_well None = false
ended_well (Some output) = is_success output.code

abbrev pub stdout_of : Option Output → List ℕ
stdout_of None = []
stdout_of (Some output) = output.stdout

-- what the program wrote, where it could be started and ended with the status 0
abbrev pub written : Command → Option Output → Result (List ℕ) Refusal
written c output = if ended_well output then Ok (stdout_of output) else Err (plain (failure c output))

-- an output as a text, without the ends of lines after it; these are characters of their own, so that
-- it is the same to ask for UTF-8 before they are taken off
abbrev pub as_text : Command → List ℕ → Result (List ℕ) Refusal
as_text c bytes = if is_utf8 (without_line_ends bytes) then Ok (without_line_ends bytes)
    else Err (plain (output_not_text c))

abbrev pub text_of : Command → Result (List ℕ) Refusal → Result (List ℕ) Refusal
text_of c (Ok bytes) = as_text c bytes
text_of c (Err refusal) = Err refusal

abbrev pub said : Answers → Command → Result (List ℕ) Refusal
said answers c = text_of c (written c (answers c.program c.args))

-- the command that asks a program for its version and its host
abbrev pub verbose : Command → Command
verbose c = with_args c (codes "-vV" ∷ [])
