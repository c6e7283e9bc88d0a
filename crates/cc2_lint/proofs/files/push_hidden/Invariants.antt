use Rattle.std.proofs.Common.{◌≡◌, ◌++◌, drop, map}
use Rattle.cc2_findings.specs.Dirs.{path_of}
use Rattle.cc2_lint_settings.specs.HiddenViews.{hidden_view}
use Rattle.cc2_lint.specs.Subjects.{hidden_subject}
use Rattle.cc2_reports.specs.Problems.{subjects_of}
use Rattle.cc2_lint.proofs.files.push_hidden.Given as goal

abbrev pub invariant-loop-key : goal.invariant-loop-key
invariant-loop-key l =
    subjects_of l.reports.items ++ map (hidden_subject (path_of l.file)) (map hidden_view (drop l.key-index l.hidden))
    ≡ subjects_of l.initial.reports.items ++ map (hidden_subject (path_of l.file)) (map hidden_view l.hidden)
