-- What the code hands over for the command for rustc, as texts; and one step of it.
use Rattle.std.specs.Prelude.{ℕ, List, ◌∷◌, Option, Some, None, option_map}
use Rattle.std.specs.Option.{option_copied}
use Rattle.cc2_error.specs.Commands.{Command, command_of}
use Rattle.cc2_rustc.specs.Rustc.{Settings}
use Rattle.cc2_rustc.specs.declared.rustc.Parts.{Parts}

abbrev pub settings_of : Parts → Settings
settings_of parts = record {
  chosen = option_map command_of (option_copied parts.chosen);
  rustc = option_copied parts.rustc;
  wrapper = option_copied parts.wrapper;
  workspace_wrapper = option_copied parts.workspace_wrapper;
  cargo = parts.cargo.now;
}

-- a command behind a wrapper, where there is one
abbrev pub wrapped_by : Option (List ℕ) → Command → Command
wrapped_by None command = command
wrapped_by (Some wrapper) command = record { program = wrapper; args = command.program ∷ command.args }
