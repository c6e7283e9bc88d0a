use Rattle.std.proofs.Common.{drop, map, string_bytes}
use Rattle.cc2_base.specs.Told.{Keeps}
use Rattle.cc2_lint.specs.Listed.{IsOfPath}
use Rattle.cc2_lint.specs.Worlds.{WhereAll}
use Rattle.cc2_reports.proofs.InTurn.{IsSoFar}
use Rattle.cc2_lint.proofs.paths.found_reports.Given as goal

-- what programs agree with is kept, and with the reports of the paths that are left, these are those of all
abbrev pub invariant-loop-path : goal.invariant-loop-path
invariant-loop-path g l = record {
  same : Keeps (g.P.Programs.told l.initial.programs) (g.P.Programs.told l.programs);
  so_far : WhereAll (g.F.Files.told l.files) (g.P.Programs.told l.initial.programs) (g.R.Permissions.told l.permissions) (λ fs answers is_open.
      IsSoFar (IsOfPath fs answers is_open l.machine (map (λ text. text.now) l.question.targets.now) l.question.dir.now)
      (map string_bytes l.question.paths.now) (map string_bytes (drop l.path-index l.question.paths.now)) l.all.items);
}
