use Rattle.std.proofs.Common.{◌≡◌, ◌++◌, map, string_bytes}
use Rattle.cc2_base.specs.Told.{Keeps, WhereTold}
use Rattle.cc2_base.specs.Walked.{left, files_of}
use Rattle.cc2_base.proofs.walk.walked_paths.Given as goal

abbrev pub invariant-loop-path : goal.invariant-loop-path
invariant-loop-path g l = record {
  told : Keeps (g.F.Files.told (files_of l.initial.path-iterator)) (g.F.Files.told (files_of l.path-iterator));
  so_far : WhereTold (g.F.Files.told (files_of l.initial.path-iterator)) (λ fs. map string_bytes l.paths.items ++ left l.path-iterator fs ≡ left l.initial.path-iterator fs);
}
