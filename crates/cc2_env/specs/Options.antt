-- What a caller chooses in place of the machine's, and the context that comes of it.
use Rattle.std.specs.Prelude.{◌≡◌, ℕ, List, codes, map, Option, Some, None, option_map, Result, Ok, IsSomeAnd, string_bytes, String, Vec}
use Rattle.std.specs.BTreeMap.{BTreeMap}
use Rattle.std.specs.declared.alloc.Global.{Global}
use Rattle.cc2_error.specs.Causes.{Refusal}
use Rattle.cc2_error.specs.Commands.{command_of}
use Rattle.cc2_base.specs.EnvTexts.{env_text_of}
use Rattle.cc2_base.specs.declared.machine.Machine.{Machine}
use Rattle.cc2_env.specs.CommandLine.{Override, override_of, overrides_in}
use Rattle.cc2_env.specs.Kept.{Variables, kept_of, variables_in}
use Rattle.cc2_env.specs.declared.options.ResolveOptions.{ResolveOptions}
use Rattle.cc2_env.specs.declared.context.ResolveContext.{ResolveContext}

-- the variables that were given, else the machine's
abbrev pub variables_or : Option Variables → Variables → Variables
variables_or (Some given) machine = given
variables_or None machine = machine

-- the variables of the options where they were given, else what is kept of the machine's
abbrev pub chosen_variables : ResolveOptions → Machine → Variables
chosen_variables options machine name =
    variables_or (option_map variables_in options.env) (kept_of machine.env.items) name

-- the program of Cargo: the option, else the variable, else its name
abbrev pub cargo_of : Option (List ℕ) → Option (List ℕ) → Result (List ℕ) Refusal
cargo_of (Some program) variable = Ok program
cargo_of None (Some value) = env_text_of (codes "CARGO") value
cargo_of None None = Ok (codes "cargo")

abbrev pub chosen_cargo : ResolveOptions → Machine → Result (List ℕ) Refusal
chosen_cargo options machine =
    cargo_of (option_map string_bytes options.cargo) (chosen_variables options machine (codes "CARGO"))

-- what the options set on the command line, in its order
abbrev pub chosen_overrides : ResolveOptions → List Override
chosen_overrides options = overrides_in options.command_line

-- the options have the variables that are kept of an environment
abbrev pub IsKeptOf : List (String Global × Vec ℕ Global) → ResolveOptions → Type 0
IsKeptOf env options = IsSomeAnd options.env (λ m. (name : List ℕ) → variables_in m name ≡ kept_of env name)

-- the variables of a context
abbrev pub variables_of : ResolveContext → Variables
variables_of context = variables_in context.env

-- what the command line of a context sets, in its order
abbrev pub overrides_of : ResolveContext → List Override
overrides_of context = map override_of context.command_line.items

-- the context that comes of the options, a directory and a machine
pub record IsContext (options : ResolveOptions) (place : String Global)
    (machine : Machine) (context : ResolveContext) : Type 0 where
  pub variables : (name : List ℕ) → variables_of context name ≡ chosen_variables options machine name
  pub cargo : chosen_cargo options machine ≡ Ok (string_bytes context.cargo)
  pub directory : context.current_dir ≡ place
  pub rustc : context.rustc ≡ options.rustc
  pub home : context.cargo_home ≡ options.cargo_home
  pub host : context.host_triple ≡ options.host_triple
  pub overrides : overrides_of context ≡ chosen_overrides options

-- both have variables, and the same ones, or neither has
abbrev pub IsSameEnv : Option (BTreeMap (String Global) (Vec ℕ Global))
    → Option (BTreeMap (String Global) (Vec ℕ Global)) → Type 0
IsSameEnv None None = Unit {0}
IsSameEnv (Some m) (Some n) = (name : List ℕ) → variables_in n name ≡ variables_in m name
IsSameEnv m n = ⊥

abbrev pub home_text : Option (Option (String Global)) → Option (Option (List ℕ))
home_text home = option_map (λ dir. option_map string_bytes dir) home

-- the second options say what the first do
pub record IsSameOptions (was options : ResolveOptions) : Type 0 where
  pub variables : IsSameEnv was.env options.env
  pub rustc : option_map command_of options.rustc ≡ option_map command_of was.rustc
  pub cargo : option_map string_bytes options.cargo ≡ option_map string_bytes was.cargo
  pub home : home_text options.cargo_home ≡ home_text was.cargo_home
  pub host : option_map string_bytes options.host_triple ≡ option_map string_bytes was.host_triple
  pub overrides : chosen_overrides options ≡ chosen_overrides was

-- the second context says what the first does
pub record IsSameContext (was context : ResolveContext) : Type 0 where
  pub variables : (name : List ℕ) → variables_of context name ≡ variables_of was name
  pub rustc : option_map command_of context.rustc ≡ option_map command_of was.rustc
  pub cargo : string_bytes context.cargo ≡ string_bytes was.cargo
  pub home : home_text context.cargo_home ≡ home_text was.cargo_home
  pub host : option_map string_bytes context.host_triple ≡ option_map string_bytes was.host_triple
  pub directory : string_bytes context.current_dir ≡ string_bytes was.current_dir
  pub overrides : overrides_of context ≡ overrides_of was
