-- The configuration of a directory under what a caller chose and what the machine has.
use Rattle.std.specs.Prelude.{◌≡◌, ◌⊎◌, ℕ, List, Option, Some, None, Result, Ok, Err, string_bytes}
use Rattle.cc2_error.specs.Causes.{Refusal}
use Rattle.cc2_base.specs.Homes.{cargo_home_of}
use Rattle.cc2_base.specs.Told.{Tree}
use Rattle.cc2_base.specs.declared.machine.Machine.{Machine}
use Rattle.cc2_env.specs.Options.{chosen_cargo, chosen_overrides, chosen_variables, home_text, IsContext}
use Rattle.cc2_env.specs.declared.options.ResolveOptions.{ResolveOptions}
use Rattle.cc2_de.specs.Config.{config_at}
use Rattle.cc2_de.specs.LoadOver.{IsLoadOver, IsLoadOverCause}
use Rattle.cc2_de.specs.declared.configured.Configured.{Configured}

-- the home that was chosen, which may be none, else what is found
abbrev pub home_or : Option (Option (List ℕ)) → Result (Option (List ℕ)) Refusal → Result (Option (List ℕ)) Refusal
home_or (Some chosen) found = Ok chosen
home_or None found = found

-- Cargo's home: the option, else the machine's, seen from the directory
abbrev pub chosen_home : ResolveOptions → List ℕ → Machine → Result (Option (List ℕ)) Refusal
chosen_home options cwd machine = home_or (home_text options.cargo_home) (cargo_home_of cwd machine)

module _ (fs : Tree) (machine : Machine) (cwd : List ℕ) (options : ResolveOptions) where
  -- the context comes of the options, the directory and the machine; the configuration is what the
  -- variables, and then the overrides, make of the walked files
  pub record IsConfigured (c : Configured) : Type 0 where
    pub directory : string_bytes c.context.current_dir ≡ cwd
    pub context : IsContext options c.context.current_dir machine c.context
    pub config : IsLoadOver fs cwd (chosen_home options cwd machine) (chosen_variables options machine) (chosen_overrides options) (config_at c.config)

  -- `CARGO` is refused; or the home is, a file is or doesn't merge, a variable is, or an override is or doesn't
  -- merge
  abbrev pub IsConfiguredCause : Refusal → Type 0
  IsConfiguredCause refusal =
      (chosen_cargo options machine ≡ Err refusal)
      ⊎ IsLoadOverCause fs cwd (chosen_home options cwd machine) (chosen_variables options machine) (chosen_overrides options) refusal
