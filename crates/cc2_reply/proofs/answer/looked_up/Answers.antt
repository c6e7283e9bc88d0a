use Rattle.std.proofs.Common.{ap}
use Rattle.cc2_base.proofs.Telling.{tells}
use Rattle.cc2_base.specs.Told.{Tree}
use Rattle.cc2_base.specs.ToldPrograms.{Answers}
use Rattle.cc2_ask.specs.Views.{given_view, paths_of, runs_of}
use Rattle.cc2_ask.specs.Givens.{AgreesOnPaths, AgreesOnRuns, some_answers_agree}
use Rattle.cc2_ask.specs.declared.given.Given.{Given as CodeGiven}
use Rattle.cc2_ask.specs.declared.known.KnownPaths.{KnownPaths}
use Rattle.cc2_ask.specs.declared.known.KnownRuns.{KnownRuns}
use Rattle.cc2_reply.specs.Answered.{IsAnsweredBy, IsAskedAnswer}
use Rattle.cc2_reply.specs.Asked.{asked_in}
use Rattle.cc2_reply.specs.declared.load.Answered.{Answered}
use Rattle.cc2_reply.specs.declared.load.Answered.TheVariants.{Answer, Loaded}
use Rattle.cc2_reply.proofs.answer.looked_up.Goals as goal

-- what is answered in each world is answered by what was given
in_each : (given : CodeGiven) (answered : Answered)
    → ((fs : Tree) (answers : Answers) → AgreesOnPaths (paths_of given.paths) fs → AgreesOnRuns (runs_of given.runs) answers
    → IsAskedAnswer fs answers given.machine (given_view given).state (asked_in (given_view given).words) answered)
    → IsAnsweredBy (given_view given) given.machine answered
in_each given (Answer a) each = each
in_each given (Loaded cells state) each = λ fs paths.
    let (answers, runs) = some_answers_agree (runs_of given.runs) in each fs answers paths runs

pub returns : goal.returns
returns c =
    in_each c.args.given.now c.answer_by-answer.result (λ fs answers paths runs.
    let trees : KnownPaths → Tree → Type 0 = λ known tree. AgreesOnPaths (paths_of known) tree in
    let worlds : KnownRuns → Answers → Type 0 = λ known said. AgreesOnRuns (runs_of known) said in
    c.answer_by-answer.ensures fs answers
    (tells (ap trees c.new-files.ensures) fs paths) (tells (ap worlds c.new-programs.ensures) answers runs))
