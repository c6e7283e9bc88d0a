use Rattle.std.proofs.Common.{◌≡◌, ◌++◌, drop, map}
use Rattle.cc2_findings.specs.Dirs.{path_of}
use Rattle.cc2_findings.specs.KeyFindings.{shown_fault}
use Rattle.cc2_lint.specs.Subjects.{key_subject}
use Rattle.cc2_reports.specs.Problems.{subjects_of}
use Rattle.cc2_lint.proofs.files.push_keys.Given as goal

abbrev pub invariant-loop-finding : goal.invariant-loop-finding
invariant-loop-finding l =
    subjects_of l.reports.items ++ map (λ k. key_subject (path_of l.file) (shown_fault k)) (drop l.finding-index l.finding-items)
    ≡ subjects_of l.initial.reports.items ++ map (λ k. key_subject (path_of l.file) (shown_fault k)) l.file.found.keys.items
