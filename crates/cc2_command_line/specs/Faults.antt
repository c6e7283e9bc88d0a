-- What is wrong with a command line.
use Rattle.std.specs.Prelude.{ℕ, List, Option, Some, None, Result, Ok, Err}
use Rattle.cc2_command_line.specs.declared.option.Flag.{Flag}
use Rattle.cc2_command_line.specs.declared.option.Setting.{Setting}

pub data Fault : Type 0 where
  -- an argument begins with a hyphen and is no option
  unknown_option : List ℕ → Fault
  -- the last argument is an option that needs a value
  no_value : Setting → Fault
  unknown_command : List ℕ → Fault
  -- there are options and no command
  no_command : Fault
  -- the command doesn't have this option
  unfit_flag : Flag → Fault
  unfit_setting : Setting → Fault
  -- an option with one value is given twice
  twice : Setting → Fault
  -- an option has a value that isn't one of these
  bad_value : Setting → List ℕ → List (List ℕ) → Fault
  -- two options exclude each other
  conflict : List ℕ → List ℕ → Fault
  -- the command takes no further operand
  unexpected : List ℕ → Fault
  no_memory : Fault

-- what follows where nothing is wrong yet
abbrev pub and_then : {A B : Type 0} → Result A Fault → (A → Result B Fault) → Result B Fault
and_then (Ok a) next = next a
and_then (Err fault) next = Err fault

-- the fault, if there is one, else what follows
abbrev pub unless : {A : Type 0} → Option Fault → Result A Fault → Result A Fault
unless None next = next
unless (Some fault) next = Err fault
