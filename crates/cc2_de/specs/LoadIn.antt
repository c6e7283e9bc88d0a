-- A load in a context: of its directory, with its home, under its variables and its overrides.
use Rattle.std.specs.Prelude.{ℕ, List, Option, Some, None, Result, string_bytes}
use Rattle.cc2_error.specs.Causes.{Refusal}
use Rattle.cc2_base.specs.Homes.{cargo_home_of}
use Rattle.cc2_error.specs.Outcomes.{Answered}
use Rattle.cc2_base.specs.Told.{Tree}
use Rattle.cc2_base.specs.Walked.{walked}
use Rattle.cc2_error.specs.declared.error.Error.{Error}
use Rattle.cc2_base.specs.declared.machine.Machine.{Machine}
use Rattle.cc2_env.specs.CommandLine.{Override}
use Rattle.cc2_env.specs.Kept.{Variables}
use Rattle.cc2_env.specs.Options.{home_text, overrides_of, variables_of}
use Rattle.cc2_env.specs.declared.context.ResolveContext.{ResolveContext}
use Rattle.cc2_de.specs.Config.{config_at}
use Rattle.cc2_de.specs.Configured.{home_or}
use Rattle.cc2_de.specs.LoadFrom.{IsLoadOf, IsLoadBelow}
use Rattle.cc2_de.specs.LoadOver.{IsLoadOver, IsLoadOverCause}
use Rattle.cc2_de.specs.declared.config.Config.{Config}

-- a load with the home that was chosen, else with the machine's
abbrev pub IsLoadWith : Tree → List ℕ → Machine → Option (Option (List ℕ)) → Result Config Error → Type 0
IsLoadWith fs cwd machine (Some home) result = IsLoadOf fs (walked fs cwd home) result
IsLoadWith fs cwd machine None result = IsLoadBelow fs cwd (cargo_home_of cwd machine) result

-- what the variables, and then the overrides, make of the walked files, or why there is none
abbrev pub IsLoaded : Tree → List ℕ → Result (Option (List ℕ)) Refusal → Variables → List Override → Result Config Error → Type 0
IsLoaded fs cwd home vars os result = Answered config_at result (IsLoadOver fs cwd home vars os) (IsLoadOverCause fs cwd home vars os)

-- the home of a context, else the machine's, seen from the directory
abbrev pub home_in : ResolveContext → Machine → Result (Option (List ℕ)) Refusal
home_in context machine = home_or (home_text context.cargo_home) (cargo_home_of (string_bytes context.current_dir) machine)

abbrev pub IsLoadIn : Tree → Machine → ResolveContext → Result Config Error → Type 0
IsLoadIn fs machine context result =
    IsLoaded fs (string_bytes context.current_dir) (home_in context machine) (variables_of context) (overrides_of context) result
