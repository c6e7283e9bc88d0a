use Rattle.std.proofs.Common.{◌≡◌, ◌++◌, drop, map}
use Rattle.cc2_findings.specs.Dirs.{path_of}
use Rattle.cc2_findings.specs.ClashViews.{clash_view}
use Rattle.cc2_lint.specs.Subjects.{clash_subject}
use Rattle.cc2_reports.specs.Problems.{subjects_of}
use Rattle.cc2_lint.proofs.files.push_clashes.Given as goal

abbrev pub invariant-loop-clash : goal.invariant-loop-clash
invariant-loop-clash l =
    subjects_of l.reports.items ++ map (clash_subject (path_of l.file)) (map clash_view (drop l.clash-index l.clashes))
    ≡ subjects_of l.initial.reports.items ++ map (clash_subject (path_of l.file)) (map clash_view l.clashes)
