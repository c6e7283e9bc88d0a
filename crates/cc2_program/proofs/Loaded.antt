-- What an answer prints of a query over a load.
use Rattle.std.proofs.Common.{◌≡◌, ◌⊎◌, ℕ, List, map, Result, Err, sym, ap, subst, ◌∙◌, inl, inr}
use Rattle.std.specs.Result.{result_map_both}
use Rattle.cc2_error.specs.Causes.{Refusal, memory, plain, refusal_of}
use Rattle.cc2_error.specs.declared.error.Error.{Error}
use Rattle.cc2_base.specs.Told.{Tree}
use Rattle.cc2_base.specs.declared.machine.Machine.{Machine}
use Rattle.cargo_config2.specs.declared.config.Config.{Config}
use Rattle.cc2_cli.specs.Answers.{answer_text, Refuses, Shows}
use Rattle.cc2_cli.specs.Choices.{Choice}
use Rattle.cc2_cli.specs.declared.answer.Answer.{Answer}
use Rattle.cc2_answers.specs.Choices.{IsConfigUnder, IsConfigUnderCause, IsOverLoad, override_of}
use Rattle.cc2_program.specs.Queries.{PrintsOverLoad}
use Rattle.cc2_target_answers.specs.Outcomes.{Comes}
use Rattle.cc2_target_answers.proofs.Loaded.{by_config}

module _ {A : Type 0} (lines : A → List ℕ) (Is : Config → Result A Refusal → Type 0) (fs : Tree) (machine : Machine) (dir : List ℕ) (choices : List Choice) where
  -- the answer shows what a query comes to
  pub prints : (outcome : Result A Refusal) (answer : Answer) → IsOverLoad fs machine dir (map override_of choices) Is outcome
      → Shows lines outcome answer → PrintsOverLoad lines Is fs machine dir choices (answer_text answer) answer.status
  prints outcome answer is (stated, inl same, text, status) =
      (stated, subst (λ (o : Result A Refusal). IsOverLoad fs machine dir (map override_of choices) Is o) (sym same) is, text, status)
  prints outcome answer is (stated, inr wants, text, status) = (stated, inr (inr wants), text, status)

  -- so it does by a configuration that the load gives
  pub prints_found : {T : Type 0} (view : T → A) (c : Config) → IsConfigUnder fs machine dir (map override_of choices) c
      → ((refusal : Refusal) → ¬ (IsConfigUnderCause fs machine dir (map override_of choices) refusal))
      → (found : Result T Error) (answer : Answer) → Comes view (Is c) found
      → Shows lines (result_map_both view refusal_of found) answer
      → PrintsOverLoad lines Is fs machine dir choices (answer_text answer) answer.status
  prints_found view c is free found answer h shows =
      prints (result_map_both view refusal_of found) answer (by_config Is fs machine dir (map override_of choices) view c is free found h) shows

  -- so is a refusal of the load
  pub prints_unloaded : (refusal : Refusal) (answer : Answer)
      → (refusal ≡ plain memory) ⊎ IsConfigUnderCause fs machine dir (map override_of choices) refusal
      → Refuses refusal answer → PrintsOverLoad lines Is fs machine dir choices (answer_text answer) answer.status
  prints_unloaded refusal answer (inl none) (stated, inl same, text, status) =
      (Err stated, inr (inr (ap Err (same ∙ none))), text, status)
  prints_unloaded refusal answer (inr cause) (stated, inl same, text, status) =
      (Err stated, inr (inl (refusal, cause, ap Err same)), text, status)
  prints_unloaded refusal answer h (stated, inr wants, text, status) = (Err stated, inr (inr (ap Err wants)), text, status)
