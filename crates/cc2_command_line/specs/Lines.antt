-- The whole command line.
use Rattle.std.specs.Prelude.{ℕ, Bool, List, [], ◌∷◌, codes, bytes_eq, Option, Some, None, Result, Ok, Err, if◌then◌else◌}
use Rattle.cc2_command_line.specs.Choices.{chosen, color_named, color_names}
use Rattle.cc2_command_line.specs.Commands.{Command, command_of, verb_named}
use Rattle.cc2_command_line.specs.Faults.{Fault, no_command as no_command_fault, and_then, unknown_command}
use Rattle.cc2_command_line.specs.Parts.{Part, parts_of}
use Rattle.cc2_command_line.specs.Selected.{has_flag, operands, single, values}
use Rattle.cc2_command_line.specs.declared.choice.Color.{Color}
use Rattle.cc2_command_line.specs.declared.choice.Color.TheVariants as color
use Rattle.cc2_command_line.specs.declared.command.Verb.{Verb}
use Rattle.cc2_command_line.specs.declared.option.Flag.TheVariants as a_flag
use Rattle.cc2_command_line.specs.declared.option.Setting.TheVariants as a_setting

-- a command, and the options that every command has
pub record Line : Type 0 where
  pub command : Command
  -- the directory to start in
  pub directory : Option (List ℕ)
  -- the overrides, the strongest last
  pub configs : List (List ℕ)
  pub color : Color
  pub quiet : Bool
  -- no program is run
  pub no_programs : Bool

pub data Invocation : Type 0 where
  -- help for the program, or for one of its commands
  help : Option Verb → Invocation
  version : Invocation
  run : Line → Invocation

-- the arguments without the name that Cargo puts first when it runs the subcommand
abbrev pub own_words : List (List ℕ) → List (List ℕ)
own_words [] = []
own_words (word ∷ words) = if bytes_eq word (codes "config2") then words else word ∷ words

abbrev pub help_on_verb : List ℕ → Option Verb → Result Invocation Fault
help_on_verb word None = Err (unknown_command word)
help_on_verb word (Some v) = Ok (help (Some v))

-- help for the command that the first word names; for the program if there is no word, and for `help`
abbrev pub help_on : List (List ℕ) → Result Invocation Fault
help_on [] = Ok (help None)
help_on (word ∷ words) = if bytes_eq word (codes "help") then Ok (help None) else help_on_verb word (verb_named word)

-- without a command: help if there is no option either
abbrev pub no_command : List Part → Result Invocation Fault
no_command [] = Ok (help None)
no_command (part ∷ parts) = Err no_command_fault

abbrev pub color_of : List Part → Result Color Fault
color_of parts = chosen a_setting.Color color_names color_named color.Auto (single a_setting.Color parts)

-- a command with these operands and the options of these parts, and those that every command has
abbrev pub line_of : Verb → List (List ℕ) → List Part → Result Line Fault
line_of v words parts =
    and_then (single a_setting.Directory parts) (λ directory. and_then (color_of parts) (λ color.
    and_then (command_of v words parts) (λ command. Ok (record {
      command = command;
      directory = directory;
      configs = values a_setting.Config parts;
      color = color;
      quiet = has_flag a_flag.Quiet parts;
      no_programs = has_flag a_flag.NoPrograms parts;
    }))))

abbrev pub run_verb : List ℕ → Option Verb → List (List ℕ) → List Part → Result Invocation Fault
run_verb word None words parts = Err (unknown_command word)
run_verb word (Some v) words parts = and_then (line_of v words parts) (λ line. Ok (run line))

abbrev pub named : List ℕ → List (List ℕ) → List Part → Result Invocation Fault
named word words parts =
    if bytes_eq word (codes "help") then help_on words else run_verb word (verb_named word) words parts

abbrev pub by_operands : List (List ℕ) → List Part → Result Invocation Fault
by_operands [] parts = no_command parts
by_operands (word ∷ words) parts = named word words parts

-- what these parts mean: help and the version precede the command, whose name is the first operand
abbrev pub invocation_by : List Part → Result Invocation Fault
invocation_by parts =
    if has_flag a_flag.Help parts then help_on (operands parts)
    else if has_flag a_flag.Version parts then Ok version
    else by_operands (operands parts) parts

-- what a command line means, or what is wrong with it
abbrev pub invocation_of : List (List ℕ) → Result Invocation Fault
invocation_of words = and_then (parts_of (own_words words)) invocation_by
