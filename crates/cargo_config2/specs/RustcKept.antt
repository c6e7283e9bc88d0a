-- The command for rustc of a configuration, and what is kept of it.
use Rattle.std.specs.Prelude.{option_map, string_bytes}
use Rattle.cc2_error.specs.Commands.{Command, command_of}
use Rattle.cc2_base.specs.Told.{Tree}
use Rattle.cc2_env.specs.declared.context.ResolveContext.{ResolveContext}
use Rattle.cc2_resolved_tables.specs.declared.build.BuildConfig.{BuildConfig}
use Rattle.cc2_rustc.specs.Kept.{IsKeptAs}
use Rattle.cc2_rustc.specs.Rustc.{Settings, is_there, rustc_command}
use Rattle.cargo_config2.specs.declared.config.Config.{Config}

-- what the command is made of: the context's, and the fields of `build` as they are now
abbrev pub settings_in : ResolveContext → BuildConfig → Settings
settings_in context build = record {
  chosen = option_map command_of context.rustc;
  rustc = option_map string_bytes build.rustc;
  wrapper = option_map string_bytes build.rustc_wrapper;
  workspace_wrapper = option_map string_bytes build.rustc_workspace_wrapper;
  cargo = string_bytes context.cargo;
}

abbrev pub rustc_settings : Config → Settings
rustc_settings c = settings_in c.loaded.context c.build

abbrev pub rustc_command_of : Tree → Config → Command
rustc_command_of fs c = rustc_command (is_there fs) (rustc_settings c)

-- what is kept is what these files give; so nothing is
abbrev pub AgreesOnRustc : Tree → Config → Type 0
AgreesOnRustc fs c = IsKeptAs c.kept.rustc (rustc_command_of fs c)
