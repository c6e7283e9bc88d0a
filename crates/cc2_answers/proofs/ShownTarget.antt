-- What a composed answer shows of a target of a load.
use Rattle.std.proofs.Common.{◌≡◌, ◌⊎◌, ℕ, List, Option, Some, None, Ok, Err, sym, ap, subst, ◌∙◌, inl, inr}
use Rattle.cc2_error.specs.Causes.{Refusal, plain, memory, spec_name}
use Rattle.cc2_base.specs.Told.{Tree}
use Rattle.cc2_base.specs.ToldPrograms.{Answers}
use Rattle.cc2_base.specs.declared.machine.Machine.{Machine}
use Rattle.cc2_resolved.specs.Targets.{Target, target_of}
use Rattle.cc2_resolved.specs.TargetConfigs.{TargetAnswer}
use Rattle.cargo_config2.specs.TargetQueries.{IsQueryAnswer, IsQueryCause}
use Rattle.cargo_config2.specs.declared.config.Config.{Config}
use Rattle.cc2_cli.specs.Answers.{answer_text, Refuses, Shows}
use Rattle.cc2_cli.specs.declared.answer.Answer.{Answer}
use Rattle.cc2_cli.proofs.Shown.{stated_outcome}
use Rattle.cc2_env.specs.CommandLine.{Override}
use Rattle.cc2_answers.specs.Choices.{IsConfigUnder, IsConfigUnderCause}
use Rattle.cc2_answers.specs.TargetLines.{target_lines}
use Rattle.cc2_answers.specs.TargetRuns.{PrintsFor, PrintsTarget}

module _ (fs : Tree) (answers : Answers) (c : Config) where
  -- settings that are the target's
  pub prints_settings : (t : Target) (a : TargetAnswer) (answer : Answer)
      → IsQueryAnswer fs answers c t a × ((refusal : Refusal) → ¬ (IsQueryCause fs answers c t refusal))
      → Shows target_lines (Ok a) answer → PrintsFor fs answers c (Some t) (answer_text answer) answer.status
  prints_settings t a answer is (stated, which, text, status) =
      (stated, stated_outcome (IsQueryAnswer fs answers c t) (IsQueryCause fs answers c t) (Ok a) stated is which, text, status)

  -- a refusal that is a cause
  pub prints_refusal : (t : Target) (refusal : Refusal) (answer : Answer)
      → (refusal ≡ plain memory) ⊎ IsQueryCause fs answers c t refusal → Refuses refusal answer
      → PrintsFor fs answers c (Some t) (answer_text answer) answer.status
  prints_refusal t refusal answer stands (stated, inl same, text, status) =
      (Err stated, subst (λ (r : Refusal). (r ≡ plain memory) ⊎ IsQueryCause fs answers c t r) (sym same) stands, text, status)
  prints_refusal t refusal answer stands (stated, inr wants, text, status) = (Err stated, inl wants, text, status)

  -- that of a text that is no target
  pub prints_no_target : (t : Option Target) (refusal : Refusal) (answer : Answer) → t ≡ None → refusal ≡ plain spec_name
      → Refuses refusal answer → PrintsFor fs answers c t (answer_text answer) answer.status
  prints_no_target (Some t) refusal answer none is h = cc none
  prints_no_target None refusal answer none is (stated, inl same, text, status) = (Err stated, inl (ap Err (same ∙ is)), text, status)
  prints_no_target None refusal answer none is (stated, inr wants, text, status) = (Err stated, inr (ap Err wants), text, status)

module _ (fs : Tree) (answers : Answers) (machine : Machine) (dir text : List ℕ) (os : List Override) (answer : Answer) where
  -- what is printed by a configuration that the load gives is what the question comes to
  pub prints_target : (config : Config) → IsConfigUnder fs machine dir os config
      → ((refusal : Refusal) → ¬ (IsConfigUnderCause fs machine dir os refusal))
      → PrintsFor fs answers config (target_of text) (answer_text answer) answer.status
      → PrintsTarget fs answers machine dir os text (answer_text answer) answer.status
  prints_target config is free (outcome, of, written, status) = (outcome, inl (config, is, free, of), written, status)

  -- so is a refusal of the load
  pub prints_no_load : (refusal : Refusal) → (refusal ≡ plain memory) ⊎ IsConfigUnderCause fs machine dir os refusal
      → Refuses refusal answer → PrintsTarget fs answers machine dir os text (answer_text answer) answer.status
  prints_no_load refusal (inl none) (stated, inl same, written, status) =
      (Err stated, inr (inr (ap Err (same ∙ none))), written, status)
  prints_no_load refusal (inr cause) (stated, inl same, written, status) =
      (Err stated, inr (inl (refusal, cause, ap Err same)), written, status)
  prints_no_load refusal h (stated, inr wants, written, status) = (Err stated, inr (inr (ap Err wants)), written, status)
