-- A directory's configuration by Cargo's own rules, and what rustc is asked by it.
use Rattle.std.specs.Prelude.{◌≡◌, ◌⊎◌, ℕ, List, Result, Ok, Err, string_bytes}
use Rattle.cc2_error.specs.Causes.{Refusal}
use Rattle.cc2_error.specs.Commands.{Command, command_of}
use Rattle.cc2_error.specs.Outcomes.{IsWantOfMemory}
use Rattle.cc2_error.specs.declared.error.Error.{Error}
use Rattle.cc2_error.specs.Causes.{refusal_of}
use Rattle.cc2_error.specs.declared.path_and_args.PathAndArgs.{PathAndArgs}
use Rattle.cc2_base.specs.Homes.{cargo_home_of}
use Rattle.cc2_base.specs.Told.{Tree}
use Rattle.cc2_base.specs.ToldPrograms.{Answers}
use Rattle.cc2_base.specs.declared.machine.Machine.{Machine}
use Rattle.cc2_cargo.specs.Raw.{raw_members_at}
use Rattle.cc2_cargo.specs.RealPaths.{RealPathMap}
use Rattle.cc2_cargo_settings.specs.EnvVariables.{AreNames, EnvVariable, env_variables}
use Rattle.cc2_cargo_target.specs.Rustc.{rustc_command}
use Rattle.cargo_rules.specs.Loads.{IsMapUnder}
use Rattle.cargo_rules.specs.WithEnv.{AnswersWith, IsAskedOfRustc}
use Rattle.cargo_rules.specs.declared.config.Config.{Config}

-- the configuration has what the files of the directory have under these overrides, and the variables of the machine
pub record IsCargoConfig (fs : Tree) (reals : RealPathMap) (machine : Machine) (dir : List ℕ) (overrides : List (List ℕ)) (c : Config) : Type 0 where
  pub settings : IsMapUnder fs reals dir overrides (cargo_home_of dir machine) (raw_members_at c.settings)
  pub machine_is : c.machine ≡ machine
  pub dir_is : string_bytes c.dir ≡ dir

module _ (c : Config) where
  -- the command for rustc
  abbrev pub rustc_of : Result Command Refusal
  rustc_of = rustc_command (raw_members_at c.settings) c.machine (string_bytes c.dir)

  -- what a question to rustc comes to
  abbrev pub IsAsked : {A : Type 0} → (Command → Answers → Result A Refusal → Type 0) → AnswersWith → Result A Refusal → Type 0
  IsAsked Is answers outcome = IsAskedOfRustc Is c.settings c.machine (string_bytes c.dir) answers outcome

  -- there are these variables
  pub record IsEnv (variables : Result (List EnvVariable) Refusal) : Type 0 where
    pub names : List (List ℕ)
    pub are : AreNames (raw_members_at c.settings) names
    pub is : env_variables (raw_members_at c.settings) c.machine (string_bytes c.dir) names ≡ variables

  -- rustc's command, where programs answer with the variables from now on; or why there is none
  abbrev pub IsReady : AnswersWith → (Answers → Type 0) → Result PathAndArgs Error → Type 0
  IsReady answers told (Ok rustc) =
      (variables : List EnvVariable) × IsEnv (Ok variables) × (rustc_of ≡ Ok (command_of rustc)) × told (answers variables)
  IsReady answers told (Err e) =
      IsWantOfMemory e ⊎ (IsEnv (Err (refusal_of e)) ⊎ ((variables : List EnvVariable) × IsEnv (Ok variables) × (rustc_of ≡ Err (refusal_of e))))
