-- What arguments come to before anything of the system is read.
use Rattle.std.specs.Prelude.{◌≡◌, ◌⊎◌, Result, Ok, Err}
use Rattle.cc2_command_line.specs.Faults.{Fault}
use Rattle.cc2_command_line.specs.Helps.{help_text, version_line}
use Rattle.cc2_command_line.specs.LineViews.{line_view}
use Rattle.cc2_command_line.specs.Lines.{Invocation, help, version, run}
use Rattle.cc2_command_line.specs.Messages.{message}
use Rattle.cc2_program.specs.SaidViews.{written}
use Rattle.cc2_program.specs.Streams.{failed, out_of_memory, printed}
use Rattle.cc2_program.specs.declared.start.Start.{Start}
use Rattle.cc2_program.specs.declared.start.Start.TheVariants as start

-- help and the version are printed, wrong arguments are an error with the status 2, and a command is run
abbrev pub IsStartOf : Result Invocation Fault → Start → Type 0
IsStartOf (Ok (help verb)) (start.Said s) = written s ≡ printed (help_text verb)
IsStartOf (Ok version) (start.Said s) = written s ≡ printed version_line
IsStartOf (Ok (run line)) (start.Said s) = ⊥
IsStartOf (Err fault) (start.Said s) = written s ≡ failed (message fault) 2
IsStartOf (Ok (help verb)) (start.Command line) = ⊥
IsStartOf (Ok version) (start.Command line) = ⊥
IsStartOf (Ok (run line)) (start.Command found) = line_view found ≡ line
IsStartOf (Err fault) (start.Command line) = ⊥

-- memory ran out
abbrev pub IsWithoutMemory : Start → Type 0
IsWithoutMemory (start.Said s) = written s ≡ out_of_memory
IsWithoutMemory (start.Command line) = ⊥

abbrev pub Starts : Result Invocation Fault → Start → Type 0
Starts meaning found = IsStartOf meaning found ⊎ IsWithoutMemory found
