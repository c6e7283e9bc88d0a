-- From the command for rustc and its variables to what rustc is asked.
use Rattle.std.proofs.Common.{◌≡◌, ◌⊎◌, List, Result, Ok, Err, IsErrAnd, refl, sym, subst, inl, inr}
use Rattle.cc2_base.specs.ToldPrograms.{Answers}
use Rattle.cc2_error.specs.Causes.{Refusal, refusal_of}
use Rattle.cc2_error.specs.Commands.{Command, command_of}
use Rattle.cc2_error.specs.Outcomes.{Gives, IsWantOfMemory}
use Rattle.cc2_error.specs.declared.error.Error.{Error}
use Rattle.cc2_error.specs.declared.path_and_args.PathAndArgs.{PathAndArgs}
use Rattle.cc2_cargo_settings.specs.EnvVariables.{EnvVariable}
use Rattle.cc2_cargo_target.specs.Outcomes.{GivesOne}
use Rattle.cargo_rules.specs.Configs.{IsAsked, IsEnv, IsReady, rustc_of}
use Rattle.cargo_rules.specs.WithEnv.{AnswersWith, WithEnv, WithRustc}
use Rattle.cargo_rules.specs.declared.config.Config.{Config}

-- a result that gives what is stated is one of it
pub gives_one : {T A : Type 0} (view : T → A) (stated : Result A Refusal) (result : Result T Error) → Gives view result stated
    → GivesOne view result (λ outcome. outcome ≡ stated)
gives_one view stated (Ok value) is = sym is
gives_one view stated (Err e) (inl lacks) = inl lacks
gives_one view stated (Err e) (inr is) = inr (sym is)

-- the exit of a `?`
pub one_exit : {T A : Type 0} (view : T → A) (Is : Result A Refusal → Type 0) (r : Result T Error) (e : Error) → IsErrAnd r (λ f. f ≡ e)
    → IsWantOfMemory e ⊎ Is (Err (refusal_of e)) → GivesOne view r Is
one_exit view Is (Ok value) e is h = absurd is
one_exit view Is (Err f) e is h = subst (λ (g : Error). IsWantOfMemory g ⊎ Is (Err (refusal_of g))) (sym is) h

module _ {A : Type 0} (c : Config) (Is : Command → Answers → Result A Refusal → Type 0) (own : AnswersWith) where
  with_variables : (variables : Result (List EnvVariable) Refusal) → IsEnv c variables → (outcome : Result A Refusal)
      → WithEnv (WithRustc Is (rustc_of c)) own variables outcome → IsAsked c Is own outcome
  with_variables variables env outcome holds =
      (env.names, env.are, subst (λ (v : Result (List EnvVariable) Refusal). WithEnv (WithRustc Is (rustc_of c)) own v outcome) (sym env.is) holds)

  with_command : (variables : List EnvVariable) → IsEnv c (Ok variables) → (rustc : Result Command Refusal) → rustc_of c ≡ rustc
      → (outcome : Result A Refusal) → WithRustc Is rustc (own variables) outcome → IsAsked c Is own outcome
  with_command variables env rustc is outcome holds =
      with_variables (Ok variables) env outcome (subst (λ (r : Result Command Refusal). WithRustc Is r (own variables) outcome) (sym is) holds)

  -- what rustc is asked with its command
  pub asked : {T : Type 0} (view : T → A) (told : Answers → Type 0) (rustc : PathAndArgs) (result : Result T Error) → IsReady c own told (Ok rustc)
      → ((answers : Answers) → told answers → GivesOne view result (Is (command_of rustc) answers)) → GivesOne view result (IsAsked c Is own)
  asked view told rustc (Ok value) (variables, env, is, now) gives =
      with_command variables env (Ok (command_of rustc)) is (Ok (view value)) (gives (own variables) now)
  asked view told rustc (Err e) (variables, env, is, now) gives = go (gives (own variables) now)
    where
      go : IsWantOfMemory e ⊎ Is (command_of rustc) (own variables) (Err (refusal_of e)) → IsWantOfMemory e ⊎ IsAsked c Is own (Err (refusal_of e))
      go (inl lacks) = inl lacks
      go (inr why) = inr (with_command variables env (Ok (command_of rustc)) is (Err (refusal_of e)) why)

  -- there is no command, or no variables
  pub unready : (told : Answers → Type 0) (e : Error) → IsReady c own told (Err e) → IsWantOfMemory e ⊎ IsAsked c Is own (Err (refusal_of e))
  unready told e (inl lacks) = inl lacks
  unready told e (inr (inl env)) = inr (with_variables (Err (refusal_of e)) env (Err (refusal_of e)) refl)
  unready told e (inr (inr (variables, env, is))) = inr (with_command variables env (Err (refusal_of e)) is (Err (refusal_of e)) refl)

module _ (c : Config) (own : AnswersWith) (told : Answers → Type 0) where
  -- the command, where programs have been given the variables
  pub ready_by : (variables : List EnvVariable) (result : Result PathAndArgs Error) → IsEnv c (Ok variables) → told (own variables)
      → Gives command_of result (rustc_of c) → IsReady c own told result
  ready_by variables (Ok rustc) env now is = (variables, env, is, now)
  ready_by variables (Err e) env now (inl lacks) = inl lacks
  ready_by variables (Err e) env now (inr is) = inr (inr (variables, env, is))

  -- there are no variables
  pub no_env : (result : Result PathAndArgs Error) (e : Error) → IsErrAnd result (λ f. f ≡ e) → IsWantOfMemory e ⊎ IsEnv c (Err (refusal_of e))
      → IsReady c own told result
  no_env (Ok rustc) e is h = absurd is
  no_env (Err f) e is (inl lacks) = subst (λ (g : Error). IsReady c own told (Err g)) (sym is) (inl lacks)
  no_env (Err f) e is (inr env) = subst (λ (g : Error). IsReady c own told (Err g)) (sym is) (inr (inl env))
