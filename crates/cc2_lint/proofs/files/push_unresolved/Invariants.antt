use Rattle.std.proofs.Common.{◌≡◌, ◌++◌, drop, map}
use Rattle.cc2_findings.specs.Dirs.{path_of}
use Rattle.cc2_lint.specs.Subjects.{unresolved_subject}
use Rattle.cc2_reports.specs.Problems.{subjects_of}
use Rattle.cc2_lint.proofs.files.push_unresolved.Given as goal

abbrev pub invariant-loop-fault : goal.invariant-loop-fault
invariant-loop-fault l =
    subjects_of l.reports.items ++ map (unresolved_subject (path_of l.file)) (drop l.fault-index l.unresolved)
    ≡ subjects_of l.initial.reports.items ++ map (unresolved_subject (path_of l.file)) l.unresolved
