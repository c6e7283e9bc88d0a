use Rattle.std.proofs.Common.{drop, map, string_bytes}
use Rattle.cc2_base.specs.Told.{WhereTold}
use Rattle.cc2_reports.proofs.InTurn.{IsSoFar}
use Rattle.cc2_value.specs.Rows.{texts_of}
use Rattle.cc2_compare.specs.Reports.{AreOfPath}
use Rattle.cc2_compare.proofs.reports.compared_reports.Given as goal

-- with the reports of the paths that are left, these are those of all
abbrev pub invariant-loop-path : goal.invariant-loop-path
invariant-loop-path g l =
    WhereTold (g.F.Files.told l.files) (λ fs. WhereTold (g.L.RealPaths.told l.reals) (λ real_paths.
    IsSoFar (AreOfPath fs real_paths (g.S.Launcher.told_with l.launcher) l.machine (texts_of l.targets)) (map string_bytes l.paths)
    (map string_bytes (drop l.path-index l.paths)) l.all.items))
