-- What a question comes to that programs answer with the variables of `[env]`.
use Rattle.std.proofs.Common.{◌≡◌, ◌⊎◌, ℕ, List, Result, Ok, Err, refl, sym, subst, inl, inr}
use Rattle.cc2_base.specs.ToldPrograms.{Answers}
use Rattle.cc2_base.specs.declared.machine.Machine.{Machine}
use Rattle.cc2_cargo.specs.Raw.{raw_members_at}
use Rattle.cc2_cargo_settings.specs.EnvVariables.{AreNames, EnvVariable, env_variables}
use Rattle.cc2_cargo_target.specs.Target.{RawSettings}
use Rattle.cc2_error.specs.Causes.{Refusal, refusal_of}
use Rattle.cc2_error.specs.Outcomes.{IsRefusal, IsWantOfMemory}
use Rattle.cc2_error.specs.declared.error.Error.{Error}
use Rattle.cargo_rules.specs.WithEnv.{AnswersWith, IsWithEnv, WithEnv}
use Rattle.cc2_target_answers.specs.Outcomes.{Comes}

module _ {A : Type 0} (Is : Answers → Result A Refusal → Type 0) (settings : RawSettings) (machine : Machine) (dir : List ℕ) (own : AnswersWith)
    (names : List (List ℕ)) (are : AreNames (raw_members_at settings) names) where
  abbrev stated : Result (List EnvVariable) Refusal
  stated = env_variables (raw_members_at settings) machine dir names

  given : (variables : List EnvVariable) → stated ≡ Ok variables → (outcome : Result A Refusal) → Is (own variables) outcome
      → IsWithEnv Is settings machine dir own outcome
  given variables is outcome holds = (names, are, subst (λ (v : Result (List EnvVariable) Refusal). WithEnv Is own v outcome) (sym is) holds)

  -- with the variables there are, it comes to what programs answer
  pub with_variables : {T : Type 0} (view : T → A) (variables : List EnvVariable) (result : Result T Error) → stated ≡ Ok variables
      → Comes view (Is (own variables)) result → Comes view (IsWithEnv Is settings machine dir own) result
  with_variables view variables (Ok value) is come = given variables is (Ok (view value)) come
  with_variables view variables (Err e) is (inl lacks) = inl lacks
  with_variables view variables (Err e) is (inr come) = inr (given variables is (Err (refusal_of e)) come)

  -- there are no variables
  pub without_variables : (e : Error) → IsRefusal stated e → IsWantOfMemory e ⊎ IsWithEnv Is settings machine dir own (Err (refusal_of e))
  without_variables e (inl lacks) = inl lacks
  without_variables e (inr is) =
      inr (names, are, subst (λ (v : Result (List EnvVariable) Refusal). WithEnv Is own v (Err (refusal_of e))) (sym is) refl)
