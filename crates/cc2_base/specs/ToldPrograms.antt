-- What programs answer and how many runs there were, as an implementation of `Programs` states it.
use Rattle.std.specs.Prelude.{ℕ, ℤ, List, [], ◌∷◌, map, Option, Some, None, if◌then◌else◌, string_bytes, vec_len, vec_capacity, ◌+◌, ◌-◌, ◌^◌, min}
use Rattle.cc2_error.specs.Commands.{is_command}
use Rattle.cc2_base.specs.declared.programs.RunAnswer.{RunAnswer}
use Rattle.cc2_base.specs.declared.programs.RunAnswer.TheVariants.{NotRun, Done}
use Rattle.cc2_base.specs.declared.programs.ProgramTable.{ProgramTable}
use Rattle.cc2_base.specs.declared.programs.HostPrograms.{HostPrograms}
use Rattle.cc2_base.specs.declared.programs.Entry.{Entry}

-- what a program that ran left: its status where it has one, and what it wrote
pub record Output : Type 0 where
  pub code : Option ℤ
  pub stdout : List ℕ
  pub stderr : List ℕ

-- what commands answer, by the program and the arguments; none where it cannot be run
abbrev pub Answers : Type 0
Answers = List ℕ → List (List ℕ) → Option Output

-- an answer, by its bytes
abbrev pub output_of : RunAnswer → Option Output
output_of NotRun = None
output_of (Done code stdout stderr) = Some (record { code = code; stdout = stdout.items; stderr = stderr.items })

-- what the first entry of the command says
abbrev pub answer_in : List Entry → Answers
answer_in [] program args = None
answer_in (e ∷ es) program args = if is_command (string_bytes e.command.path) (map string_bytes e.command.args.items) program args then output_of e.answer else answer_in es program args

-- what a table's commands answer
abbrev pub answers_of : ProgramTable → Answers
answers_of t = answer_in t.entries.items

-- answers with one command changed
abbrev pub with_answer : Answers → List ℕ → List (List ℕ) → Option Output → Answers
with_answer answers program args answer q ys = if is_command program args q ys then answer else answers q ys

-- how many commands a table takes before it must grow
abbrev pub spare_of : ProgramTable → ℕ
spare_of t = vec_capacity t.entries - vec_len t.entries

-- how many runs a table has seen
abbrev pub runs_of : ProgramTable → ℕ
runs_of t = t.count

-- how many runs the machine's programs have seen
abbrev pub host_runs_of : {R : Type 0} → HostPrograms R → ℕ
host_runs_of t = t.runs

-- one more run, up to the greatest count
abbrev pub one_more : ℕ → ℕ
one_more n = min (n + 1) (2 ^ 64 - 1)
