-- Who is asked for versions and the host.
use Rattle.std.specs.Prelude.{ℕ, Bool, false, bytes_eq, List, codes, Option, option_map, unwrap_or}
use Rattle.cc2_error.specs.Commands.{bare_command, command_of}
use Rattle.cc2_base.specs.Told.{Tree}
use Rattle.cc2_rustc.specs.Rustc.{Settings, is_there, rustc_command_for_versions}
use Rattle.cc2_rustc.specs.declared.commands.Commands.{Commands}
use Rattle.cc2_rustc.specs.AskedVersions.{Asked}

-- `RUSTC_BOOTSTRAP` is `-1`, byte by byte
abbrev pub is_stable : Option (List ℕ) → Bool
is_stable variable = unwrap_or (option_map (λ value. bytes_eq value (codes "-1")) variable) false

-- by what the command for rustc is made of, and the value of that variable
abbrev pub asked_for : Tree → Option (List ℕ) → Settings → Option (List ℕ) → Asked
asked_for fs host s bootstrap = record {
  host = host;
  cargo = bare_command s.cargo;
  rustc = rustc_command_for_versions (is_there fs) s;
  stable = is_stable bootstrap;
}

-- by the commands that the code composes
abbrev pub asks : Option (List ℕ) → Commands → Asked
asks host commands = record {
  host = host;
  cargo = command_of commands.cargo;
  rustc = command_of commands.rustc;
  stable = commands.is_stable;
}
