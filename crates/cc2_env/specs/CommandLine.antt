-- What a command line sets by `--config`: TOML texts and files, in their order.
-- Cargo Reference, Configuration, command-line overrides.
use Rattle.std.specs.Prelude.{ℕ, List, [], map, Option, Some, None, Vec, string_bytes}
use Rattle.std.specs.declared.alloc.Global.{Global}
use Rattle.cc2_env.specs.declared.command_line.Override.{Override as Given}
use Rattle.cc2_env.specs.declared.command_line.Override.TheVariants.{Text, File}

pub data Override : Type 0 where
  -- a TOML text
  from_text : List ℕ → Override
  -- the file at a path, seen from the directory
  from_file : List ℕ → Override

abbrev pub override_of : Given → Override
override_of (Text text) = from_text (string_bytes text)
override_of (File path) = from_file (string_bytes path)

-- where none was chosen, none
abbrev pub overrides_in : Option (Vec Given Global) → List Override
overrides_in None = []
overrides_in (Some list) = map override_of list.items
