-- What `cargo config2 get` prints of a directory's configuration, or of the value at a key of it.
use Rattle.std.specs.Prelude.{Bool, true, false, List}
use Rattle.cc2_base.specs.Told.{Tree}
use Rattle.cc2_base.specs.declared.machine.Machine.{Machine}
use Rattle.cc2_show_answers.specs.ShowQuestions.{EachGives, KeyGives, ResolvedGives}
use Rattle.cc2_show_answers.specs.ToldRuns.{Written}
use Rattle.cc2_cli.specs.Choices.{Choice}
use Rattle.cc2_cli.specs.ShowWords.{Request, Stage, resolved, files, environment}

module _ (fs : Tree) (machine : Machine) where
  -- of one configuration: resolved, or as it was written
  abbrev pub StageGives : Stage → Request → List Choice → Written → Type 0
  StageGives resolved request choices w = ResolvedGives fs machine request choices w
  StageGives files request choices w = KeyGives fs machine request choices w
  StageGives environment request choices w = KeyGives fs machine request choices w

  -- merged to one configuration, or each source by itself
  abbrev pub MergedGives : Bool → Request → List Choice → Written → Type 0
  MergedGives true request choices w = StageGives request.stage request choices w
  MergedGives false request choices w = EachGives fs machine request choices w

  -- what is printed for a request under choices
  abbrev pub GetGives : Request → List Choice → Written → Type 0
  GetGives request choices w = MergedGives request.merged request choices w
