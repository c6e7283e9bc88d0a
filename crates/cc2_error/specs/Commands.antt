-- A command: a program's path and its arguments, as texts by their bytes.
use Rattle.std.specs.Prelude.{ℕ, ◌-◌, List, [], ◌++◌, map, Bool, ◌&&◌, bytes_eq, string_bytes, vec_len, vec_capacity}
use Rattle.std.specs.Cmp.Lexicographic.{pointwise}
use Rattle.cc2_error.specs.declared.path_and_args.PathAndArgs.{PathAndArgs}

pub record Command : Type 0 where
  pub program : List ℕ
  pub args : List (List ℕ)

abbrev pub command_of : PathAndArgs → Command
command_of c = record { program = string_bytes c.path; args = map string_bytes c.args.items }

-- the program alone
abbrev pub bare_command : List ℕ → Command
bare_command program = record { program = program; args = [] }

-- the command with these arguments after its own
abbrev pub with_args : Command → List (List ℕ) → Command
with_args c more = record { program = c.program; args = c.args ++ more }

-- how many arguments a list takes before it must grow
abbrev pub room_of : PathAndArgs → ℕ
room_of c = vec_capacity c.args - vec_len c.args

-- the same program with the same arguments
abbrev pub is_command : List ℕ → List (List ℕ) → List ℕ → List (List ℕ) → Bool
is_command p xs q ys = bytes_eq p q && pointwise bytes_eq xs ys

-- what `==` of two commands computes
abbrev pub same_command : Command → Command → Bool
same_command c d = is_command c.program c.args d.program d.args
