-- What a composed answer shows of the host of a load.
use Rattle.std.proofs.Common.{◌≡◌, ◌⊎◌, ℕ, List, Err, ap, ◌∙◌, inl, inr}
use Rattle.cc2_error.specs.Causes.{Refusal, plain, memory}
use Rattle.cc2_base.specs.Told.{Tree}
use Rattle.cc2_base.specs.ToldPrograms.{Answers}
use Rattle.cc2_base.specs.declared.machine.Machine.{Machine}
use Rattle.cc2_rustc.specs.AskedVersions.{host_said}
use Rattle.cargo_config2.specs.Kept.{asked_by, Agrees}
use Rattle.cargo_config2.specs.declared.config.Config.{Config}
use Rattle.cargo_config2.proofs.Fresh.{fresh_agrees}
use Rattle.cc2_cli.specs.Answers.{answer_text, Refuses, Shows}
use Rattle.cc2_cli.specs.CommandLines.{host_line}
use Rattle.cc2_cli.specs.declared.answer.Answer.{Answer}
use Rattle.cc2_env.specs.CommandLine.{Override}
use Rattle.cc2_answers.specs.Choices.{IsConfigUnder, IsConfigUnderCause}
use Rattle.cc2_answers.specs.Runs.{PrintsHost}

module _ (fs : Tree) (answers : Answers) (machine : Machine) (dir : List ℕ) (os : List Override) where
  -- a loaded configuration keeps nothing yet
  pub agrees_whole : (config : Config) → IsConfigUnder fs machine dir os config → Agrees fs answers config
  agrees_whole config h = fresh_agrees fs answers config h.2.nothing_kept h.2.no_targets

  -- what is shown of a configuration that the load gives is what the question comes to
  pub prints_host : (config : Config) (answer : Answer) → IsConfigUnder fs machine dir os config
      → ((refusal : Refusal) → ¬ (IsConfigUnderCause fs machine dir os refusal))
      → Shows host_line (host_said (asked_by fs config) answers) answer
      → PrintsHost fs answers machine dir os (answer_text answer) answer.status
  prints_host config answer is free (stated, inl same, text, status) = (stated, inl (config, is, free, same), text, status)
  prints_host config answer is free (stated, inr wants, text, status) = (stated, inr (inr wants), text, status)

  -- so is a refusal of the load
  pub prints_no_host : (refusal : Refusal) (answer : Answer) → (refusal ≡ plain memory) ⊎ IsConfigUnderCause fs machine dir os refusal
      → Refuses refusal answer → PrintsHost fs answers machine dir os (answer_text answer) answer.status
  prints_no_host refusal answer (inl none) (stated, inl same, text, status) =
      (Err stated, inr (inr (ap Err (same ∙ none))), text, status)
  prints_no_host refusal answer (inr cause) (stated, inl same, text, status) =
      (Err stated, inr (inl (refusal, cause, ap Err same)), text, status)
  prints_no_host refusal answer h (stated, inr wants, text, status) = (Err stated, inr (inr (ap Err wants)), text, status)
