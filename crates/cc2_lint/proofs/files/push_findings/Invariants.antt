use Rattle.std.proofs.Common.{◌≡◌, ◌++◌, drop, flat_map, map}
use Rattle.cc2_findings.specs.Dirs.{path_of}
use Rattle.cc2_findings.specs.FindingViews.{finding_view}
use Rattle.cc2_reports.specs.Problems.{subjects_of}
use Rattle.cc2_lint.specs.Files.{findings_of}
use Rattle.cc2_lint.specs.Subjects.{finding_subjects}
use Rattle.cc2_lint.proofs.files.push_findings.Given as goal

abbrev pub invariant-loop-finding : goal.invariant-loop-finding
invariant-loop-finding g l =
    subjects_of l.reports.items
    ++ flat_map (finding_subjects (path_of l.file) l.is_open l.is_home) (map finding_view (drop l.finding-index l.finding-items))
    ≡ subjects_of l.initial.reports.items ++ flat_map (finding_subjects (path_of l.file) l.is_open l.is_home) (findings_of l.file)
