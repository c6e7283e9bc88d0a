-- What is answered to each question of a directory: the text that is written, and the status that a run ends with.
use Rattle.std.specs.Prelude.{◌≡◌, ℕ, List, Result}
use Rattle.cc2_error.specs.Causes.{Refusal}
use Rattle.cc2_error.specs.Commands.{Command}
use Rattle.cc2_base.specs.Told.{Tree}
use Rattle.cc2_base.specs.ToldPrograms.{Answers}
use Rattle.cc2_base.specs.declared.machine.Machine.{Machine}
use Rattle.cc2_env.specs.CommandLine.{Override}
use Rattle.cc2_rustc.specs.AskedVersions.{host_said}
use Rattle.cargo_config2.specs.Kept.{asked_by}
use Rattle.cargo_config2.specs.RustcKept.{rustc_command_of}
use Rattle.cargo_config2.specs.declared.config.Config.{Config}
use Rattle.cc2_cli.specs.Endings.{Prints, outcome_text, outcome_status}
use Rattle.cc2_answers.specs.Choices.{IsConfigUnder, IsConfigUnderCause, IsOverLoad}
use Rattle.cc2_answers.specs.Environments.{IsBuilt, IsBuiltCause}
use Rattle.cc2_cli.specs.CommandLines.{rustc_lines, host_line}
use Rattle.cc2_cli.specs.Lines.{build_lines}

-- the text and the status are those of an outcome of the load from the directory under the variables and the
-- overrides
abbrev pub PrintsBuild : Tree → Machine → List ℕ → List Override → List ℕ → ℕ → Type 0
PrintsBuild fs machine dir os text status =
    Prints build_lines (IsBuilt fs machine dir os) (IsBuiltCause fs machine dir os) text status

-- the command for rustc of a configuration that the load from the directory gives under the overrides
abbrev pub IsRustc : Tree → Machine → List ℕ → List Override → Command → Type 0
IsRustc fs machine dir os command = (c : Config) × IsConfigUnder fs machine dir os c × (command ≡ rustc_command_of fs c)

-- the text and the status are those of that command, or of a cause for which the load is refused
abbrev pub PrintsRustc : Tree → Machine → List ℕ → List Override → List ℕ → ℕ → Type 0
PrintsRustc fs machine dir os text status =
    Prints rustc_lines (IsRustc fs machine dir os) (IsConfigUnderCause fs machine dir os) text status

-- what the question for the host comes to over a load
abbrev pub IsHostOutcome : Tree → Answers → Machine → List ℕ → List Override → Result (List ℕ) Refusal → Type 0
IsHostOutcome fs answers machine dir os outcome =
    IsOverLoad fs machine dir os (λ c found. found ≡ host_said (asked_by fs c) answers) outcome

-- the text and the status are those of such an outcome
abbrev pub PrintsHost : Tree → Answers → Machine → List ℕ → List Override → List ℕ → ℕ → Type 0
PrintsHost fs answers machine dir os text status =
    (outcome : Result (List ℕ) Refusal) × IsHostOutcome fs answers machine dir os outcome
    × (text ≡ outcome_text host_line outcome) × (status ≡ outcome_status outcome)
