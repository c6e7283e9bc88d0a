-- What a run for a target writes, and the status that it ends with.
use Rattle.std.specs.Prelude.{◌≡◌, ◌⊎◌, ℕ, List, Option, Some, None, Result, Err}
use Rattle.cc2_error.specs.Causes.{Refusal, plain, memory, spec_name}
use Rattle.cc2_base.specs.Told.{Tree}
use Rattle.cc2_base.specs.ToldPrograms.{Answers}
use Rattle.cc2_base.specs.declared.machine.Machine.{Machine}
use Rattle.cc2_env.specs.CommandLine.{Override}
use Rattle.cc2_resolved.specs.Targets.{Target, target_of}
use Rattle.cc2_resolved.specs.TargetConfigs.{TargetAnswer}
use Rattle.cargo_config2.specs.TargetQueries.{IsQueryAnswer, IsQueryCause}
use Rattle.cargo_config2.specs.declared.config.Config.{Config}
use Rattle.cc2_cli.specs.Endings.{IsOutcome, outcome_text, outcome_status}
use Rattle.cc2_answers.specs.Choices.{IsOverLoad}
use Rattle.cc2_answers.specs.TargetLines.{target_lines}

-- what the question for the target of a text comes to, by a configuration
abbrev pub IsOutcomeFor : Tree → Answers → Config → Option Target → Result TargetAnswer Refusal → Type 0
IsOutcomeFor fs answers c None outcome = (outcome ≡ Err (plain spec_name)) ⊎ (outcome ≡ Err (plain memory))
IsOutcomeFor fs answers c (Some t) outcome = IsOutcome outcome (IsQueryAnswer fs answers c t) (IsQueryCause fs answers c t)

-- the same over a load
abbrev pub IsTargetOutcome : Tree → Answers → Machine → List ℕ → List Override → List ℕ → Result TargetAnswer Refusal → Type 0
IsTargetOutcome fs answers machine dir os text outcome =
    IsOverLoad fs machine dir os (λ c found. IsOutcomeFor fs answers c (target_of text) found) outcome

-- what is written and the status are those of such an outcome
abbrev pub PrintsTarget : Tree → Answers → Machine → List ℕ → List Override → List ℕ → List ℕ → ℕ → Type 0
PrintsTarget fs answers machine dir os text written status =
    (outcome : Result TargetAnswer Refusal) × IsTargetOutcome fs answers machine dir os text outcome
    × (written ≡ outcome_text target_lines outcome) × (status ≡ outcome_status outcome)

-- the same of a configuration
abbrev pub PrintsFor : Tree → Answers → Config → Option Target → List ℕ → ℕ → Type 0
PrintsFor fs answers c t written status =
    (outcome : Result TargetAnswer Refusal) × IsOutcomeFor fs answers c t outcome
    × (written ≡ outcome_text target_lines outcome) × (status ≡ outcome_status outcome)
