-- Of a task without a question, nothing is said.
use Rattle.std.proofs.Common.{◌≡◌, ℕ, true, List}
use Rattle.std.proofs.lemmas.Bool.{false≢true}
use Rattle.cc2_base.specs.Told.{Tree}
use Rattle.cc2_base.specs.ToldPrograms.{Answers}
use Rattle.cc2_base.specs.declared.machine.Machine.{Machine}
use Rattle.cc2_cli.specs.Choices.{Choice}
use Rattle.cc2_cli.specs.GetWords.{Task, nothing, build, rustc, host, target, unknown}
use Rattle.cc2_answers.specs.Questions.{asks_nothing, TaskGives, TaskAsksGives}

module _ (fs : Tree) (machine : Machine) (choices : List Choice) (text : List ℕ) (status : ℕ) where
  pub nothing_gives : (task : Task) → asks_nothing task ≡ true → TaskGives fs machine task choices text status
  nothing_gives nothing none = tt
  nothing_gives (build dir) none = absurd (false≢true none)
  nothing_gives (rustc dir) none = absurd (false≢true none)
  nothing_gives (host dir) none = tt
  nothing_gives (target dir word) none = tt
  nothing_gives unknown none = tt

  pub nothing_asks : (answers : Answers) (task : Task) → asks_nothing task ≡ true
      → TaskAsksGives fs answers machine task choices text status
  nothing_asks answers nothing none = tt
  nothing_asks answers (build dir) none = tt
  nothing_asks answers (rustc dir) none = tt
  nothing_asks answers (host dir) none = absurd (false≢true none)
  nothing_asks answers (target dir word) none = absurd (false≢true none)
  nothing_asks answers unknown none = tt
