use Rattle.std.proofs.Common.{◌≡◌, ◌++◌, ℕ, List, map}
use Rattle.cc2_base.specs.Told.{Keeps, WhereTold}
use Rattle.cc2_base.specs.Walked.{left, files_of}
use Rattle.cc2_base.specs.declared.machine.Machine.{Machine}
use Rattle.cc2_env.specs.CommandLine.{Override}
use Rattle.cc2_cli.specs.ShowTasks.{request_view}
use Rattle.cc2_show_answers.specs.Sources.{file}
use Rattle.cc2_show_answers.specs.Unmerged.{AreBlocks}
use Rattle.cc2_show_answers.proofs.unmerged.text_of_files.Given as goal

abbrev pub invariant-loop-path : goal.invariant-loop-path
invariant-loop-path g l = record {
  told : Keeps (g.F.Files.told (files_of l.initial.path-iterator)) (g.F.Files.told (files_of l.path-iterator));
  so_far : WhereTold (g.F.Files.told (files_of l.initial.path-iterator)) (λ fs.
      (done : List (List ℕ)) × (done ++ left l.path-iterator fs ≡ left l.initial.path-iterator fs)
      × ((machine : Machine) (os : List Override) → AreBlocks fs machine os (request_view l.request) (map (λ p. p.now) l.pieces) (map file done) l.text.items));
}
