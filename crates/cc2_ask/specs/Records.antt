-- Records: a byte for the kind, and the fields of that kind.
use Rattle.std.specs.Prelude.{ℕ, ℤ, pos, List, [], ◌∷◌, Option, Some, None, option_map, option_and_then, ◌==◌, if◌then◌else◌}
use Rattle.std.specs.Str.{byte}
use Rattle.cc2_error.specs.Commands.{Command}
use Rattle.cc2_base.specs.ToldPrograms.{Output}
use Rattle.cc2_ask.specs.Fields.{Front, field_at, text_at, list_at}
use Rattle.cc2_ask.specs.Written.{all_within, all_at}

-- what is known of a path
pub data Known : Type 0 where
  -- the file there reads so
  reads : List ℕ → Known
  -- what is there can't be read
  unreadable : Known
  -- something is there; what it holds isn't known
  unread : Known
  -- nothing is there
  absent : Known

pub data Record : Type 0 where
  -- the next word of the question
  word : List ℕ → Record
  -- the directory in which the process is
  directory : List ℕ → Record
  -- the home directory
  home : List ℕ → Record
  -- a variable's name and value
  variable : List ℕ → List ℕ → Record
  -- what is known of a path
  path : List ℕ → Known → Record
  -- what a command answered; none where its program can't be started
  run : Command → Option Output → Record
  -- the state that the reply to a load had
  state : List ℕ → Record

-- a text
abbrev pub one_text_at : (List ℕ → Record) → List ℕ → Front Record
one_text_at made bytes = option_map (λ text. (made text.0, text.1)) (text_at bytes)

-- a text and a field
abbrev pub two_fields_at : (List ℕ → List ℕ → Record) → List ℕ → Front Record
two_fields_at made bytes =
    option_and_then (λ text. option_map (λ field. (made text.0 field.0, field.1)) (field_at text.1)) (text_at bytes)

-- a program, and the list of its arguments
abbrev pub command_at : List ℕ → Front Command
command_at bytes =
    option_and_then (λ program.
    option_map (λ args. (record { program = program.0; args = args.0 }, args.1)) (list_at program.1)) (text_at bytes)

-- an exit status is one byte; none says that a signal ended the program
abbrev pub code_in : List ℕ → Option (Option ℤ)
code_in [] = Some None
code_in (code ∷ []) = Some (Some (pos code))
code_in (code ∷ (next ∷ more)) = None

abbrev pub code_at : List ℕ → Front (Option ℤ)
code_at bytes = option_and_then (λ field. option_map (λ code. (code, field.1)) (code_in field.0)) (field_at bytes)

-- an exit status, and what was written to standard output and to standard error
abbrev pub done_at : List ℕ → Front (Option Output)
done_at bytes =
    option_and_then (λ code.
    option_and_then (λ out.
    option_map (λ err. (Some (record { code = code.0; stdout = out.0; stderr = err.0 }), err.1)) (field_at out.1))
    (field_at code.1)) (code_at bytes)

-- a command, and what it answered
abbrev pub run_at : List ℕ → Front Record
run_at bytes =
    option_and_then (λ command.
    option_map (λ output. (run command.0 output.0, output.1)) (done_at command.1)) (command_at bytes)

-- a command whose program can't be started
abbrev pub no_run_at : List ℕ → Front Record
no_run_at bytes = option_map (λ command. (run command.0 None, command.1)) (command_at bytes)

-- a path, and what the file there holds
abbrev pub file_at : List ℕ → Front Record
file_at bytes = two_fields_at (λ p content. path p (reads content)) bytes

-- a state
abbrev pub state_at : List ℕ → Front Record
state_at bytes = option_map (λ field. (state field.0, field.1)) (field_at bytes)

-- what is known of a path, by the kind
abbrev pub path_at : ℕ → List ℕ → Front Record
path_at kind bytes =
    if kind == byte "F" then file_at bytes
    else (if kind == byte "U" then one_text_at (λ p. path p unreadable) bytes
    else (if kind == byte "T" then one_text_at (λ p. path p unread) bytes
    else (if kind == byte "N" then one_text_at (λ p. path p absent) bytes
    else None)))

-- the fields of a record of this kind
abbrev pub fields_at : ℕ → List ℕ → Front Record
fields_at kind bytes =
    if kind == byte "W" then one_text_at word bytes
    else (if kind == byte "C" then one_text_at directory bytes
    else (if kind == byte "H" then one_text_at home bytes
    else (if kind == byte "V" then two_fields_at variable bytes
    else (if kind == byte "P" then run_at bytes
    else (if kind == byte "X" then no_run_at bytes
    else (if kind == byte "S" then state_at bytes
    else path_at kind bytes))))))

abbrev pub record_at : List ℕ → Front Record
record_at [] = None
record_at (kind ∷ bytes) = fields_at kind bytes

-- at most n records, up to the end of the bytes
abbrev pub records_in : ℕ → List ℕ → Option (List Record)
records_in n bytes = all_within record_at n bytes

-- bytes are a request where they are records and nothing else
abbrev pub records_of : List ℕ → Option (List Record)
records_of bytes = all_at record_at bytes
