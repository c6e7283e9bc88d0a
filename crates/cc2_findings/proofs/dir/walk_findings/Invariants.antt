use Rattle.std.proofs.Common.{◌≡◌, ◌++◌, map, All}
use Rattle.cc2_base.specs.Told.{Keeps, WhereTold}
use Rattle.cc2_base.specs.Walked.{left, files_of}
use Rattle.cc2_findings.specs.Dirs.{path_of, IsOfFile}
use Rattle.cc2_findings.proofs.dir.walk_findings.Given as goal

abbrev pub invariant-loop-path : goal.invariant-loop-path
invariant-loop-path g l = record {
  told : Keeps (g.F.Files.told (files_of l.initial.path-iterator)) (g.F.Files.told (files_of l.path-iterator));
  so_far : WhereTold (g.F.Files.told (files_of l.initial.path-iterator)) (λ fs. map path_of l.linted.items ++ left l.path-iterator fs ≡ left l.initial.path-iterator fs);
  each : WhereTold (g.F.Files.told (files_of l.initial.path-iterator)) (λ fs. All (IsOfFile fs) l.linted.items);
}
