-- What is written for a request where memory runs out.
use Rattle.std.proofs.Common.{Bool, true, false, List, inr}
use Rattle.cc2_error.specs.Causes.{memory, plain}
use Rattle.cc2_base.specs.Told.{Tree}
use Rattle.cc2_base.specs.declared.machine.Machine.{Machine}
use Rattle.cc2_cli.specs.Choices.{Choice}
use Rattle.cc2_cli.specs.ShowWords.{Request, Stage, resolved, files, environment}
use Rattle.cc2_show_answers.specs.Gets.{GetGives, MergedGives, StageGives}
use Rattle.cc2_show_answers.specs.ShowQuestions.{GivesMerged, GivesValues, RequestGives, is_resolved, without_memory, unresolved}
use Rattle.cc2_show_answers.specs.ToldRuns.{IsRefused, Written}

pub of_memory : (fs : Tree) (machine : Machine) (request : Request) (choices : List Choice) (w : Written)
    → IsRefused (plain memory) w → RequestGives fs machine request choices w
of_memory fs machine request choices w is = go request.merged
  where
    values : (b : Bool) → GivesValues fs machine b request choices w
    values true = unresolved is
    values false = without_memory is

    go : (b : Bool) → GivesMerged fs machine b request choices w
    go true = values (is_resolved request)
    go false = inr is

-- the same of what `get` prints
pub get_of_memory : (fs : Tree) (machine : Machine) (request : Request) (choices : List Choice) (w : Written)
    → IsRefused (plain memory) w → GetGives fs machine request choices w
get_of_memory fs machine request choices w is = go request.merged
  where
    staged : (s : Stage) → StageGives fs machine s request choices w
    staged resolved = unresolved is
    staged files = without_memory is
    staged environment = without_memory is

    go : (b : Bool) → MergedGives fs machine b request choices w
    go true = staged request.stage
    go false = inr is
