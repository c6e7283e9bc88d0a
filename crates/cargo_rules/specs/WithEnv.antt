-- What a question comes to that rustc answers: it is run with the variables of `[env]`, by the command for rustc.
-- Cargo Reference, Configuration, `[env]`, `build.rustc`.
use Rattle.std.specs.Prelude.{◌≡◌, ℕ, List, Result, Ok, Err}
use Rattle.cc2_error.specs.Causes.{Refusal}
use Rattle.cc2_error.specs.Commands.{Command}
use Rattle.cc2_base.specs.ToldPrograms.{Answers}
use Rattle.cc2_base.specs.declared.machine.Machine.{Machine}
use Rattle.cc2_cargo.specs.Raw.{raw_members_at}
use Rattle.cc2_cargo_settings.specs.EnvVariables.{AreNames, EnvVariable, env_variables}
use Rattle.cc2_cargo_target.specs.Rustc.{rustc_command}
use Rattle.cc2_cargo_target.specs.Target.{RawSettings}

-- what programs answer to all commands, by the variables that they are run with
abbrev pub AnswersWith : Type 0
AnswersWith = List EnvVariable → Answers

-- what a question comes to that programs answer with the variables of `[env]`, or why there are none
abbrev pub WithEnv : {A : Type 0} → (Answers → Result A Refusal → Type 0) → AnswersWith → Result (List EnvVariable) Refusal → Result A Refusal → Type 0
WithEnv Is answers (Ok variables) outcome = Is (answers variables) outcome
WithEnv Is answers (Err refusal) outcome = outcome ≡ Err refusal

-- the same with those of these settings
abbrev pub IsWithEnv : {A : Type 0} → (Answers → Result A Refusal → Type 0) → RawSettings → Machine → List ℕ → AnswersWith → Result A Refusal → Type 0
IsWithEnv Is settings machine dir answers outcome =
    (names : List (List ℕ)) × AreNames (raw_members_at settings) names
    × WithEnv Is answers (env_variables (raw_members_at settings) machine dir names) outcome

-- what a question to rustc comes to, or why there is no command for it
abbrev pub WithRustc : {A : Type 0} → (Command → Answers → Result A Refusal → Type 0) → Result Command Refusal → Answers → Result A Refusal → Type 0
WithRustc Is (Ok rustc) answers outcome = Is rustc answers outcome
WithRustc Is (Err refusal) answers outcome = outcome ≡ Err refusal

-- what a question to rustc comes to by these settings
abbrev pub IsAskedOfRustc : {A : Type 0} → (Command → Answers → Result A Refusal → Type 0) → RawSettings → Machine → List ℕ → AnswersWith → Result A Refusal → Type 0
IsAskedOfRustc Is settings machine dir answers outcome =
    IsWithEnv (WithRustc Is (rustc_command (raw_members_at settings) machine dir)) settings machine dir answers outcome
