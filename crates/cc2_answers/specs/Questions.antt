-- What is answered to a question, under its choices.
use Rattle.std.specs.Prelude.{ℕ, Bool, true, false, List, map}
use Rattle.cc2_base.specs.Told.{Tree}
use Rattle.cc2_base.specs.ToldPrograms.{Answers}
use Rattle.cc2_base.specs.declared.machine.Machine.{Machine}
use Rattle.cc2_cli.specs.Choices.{Choice}
use Rattle.cc2_cli.specs.GetWords.{Question, Task, nothing, build, rustc, host, target, unknown}
use Rattle.cc2_answers.specs.Choices.{override_of}
use Rattle.cc2_answers.specs.Runs.{PrintsBuild, PrintsRustc, PrintsHost}
use Rattle.cc2_answers.specs.TargetRuns.{PrintsTarget}

-- nothing is asked of a directory
abbrev pub asks_nothing : Task → Bool
asks_nothing nothing = true
asks_nothing (build dir) = false
asks_nothing (rustc dir) = false
asks_nothing (host dir) = false
asks_nothing (target dir word) = false
asks_nothing unknown = true

-- the text and the status are those of a task that asks files alone
abbrev pub TaskGives : Tree → Machine → Task → List Choice → List ℕ → ℕ → Type 0
TaskGives fs machine nothing choices text status = Unit {0}
TaskGives fs machine (build dir) choices text status = PrintsBuild fs machine dir (map override_of choices) text status
TaskGives fs machine (rustc dir) choices text status = PrintsRustc fs machine dir (map override_of choices) text status
TaskGives fs machine (host dir) choices text status = Unit {0}
TaskGives fs machine (target dir word) choices text status = Unit {0}
TaskGives fs machine unknown choices text status = Unit {0}

-- the same of a task that asks programs too
abbrev pub TaskAsksGives : Tree → Answers → Machine → Task → List Choice → List ℕ → ℕ → Type 0
TaskAsksGives fs answers machine nothing choices text status = Unit {0}
TaskAsksGives fs answers machine (build dir) choices text status = Unit {0}
TaskAsksGives fs answers machine (rustc dir) choices text status = Unit {0}
TaskAsksGives fs answers machine (host dir) choices text status = PrintsHost fs answers machine dir (map override_of choices) text status
TaskAsksGives fs answers machine (target dir word) choices text status = PrintsTarget fs answers machine dir (map override_of choices) word text status
TaskAsksGives fs answers machine unknown choices text status = Unit {0}

-- the same for a question: its task under its choices
abbrev pub Gives : Tree → Machine → Question → List ℕ → ℕ → Type 0
Gives fs machine q text status = TaskGives fs machine q.task q.choices text status

abbrev pub AsksGives : Tree → Answers → Machine → Question → List ℕ → ℕ → Type 0
AsksGives fs answers machine q text status = TaskAsksGives fs answers machine q.task q.choices text status
