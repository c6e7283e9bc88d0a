use Rattle.std.proofs.Common.{◌≡◌, ◌++◌, drop, map}
use Rattle.cc2_findings.specs.Dirs.{path_of}
use Rattle.cc2_findings.specs.ClashViews.{clash_view}
use Rattle.cc2_lint_settings.specs.Views.{table_of}
use Rattle.cc2_lint.specs.Accepted.{is_accepted}
use Rattle.cc2_lint.specs.Subjects.{value_subject}
use Rattle.cc2_reports.specs.Problems.{subjects_of}
use Rattle.cc2_lint.proofs.files.push_values.Given as goal

abbrev pub invariant-loop-fault : goal.invariant-loop-fault
invariant-loop-fault l =
    subjects_of l.reports.items ++ map (value_subject (path_of l.file) (is_accepted (table_of l.file) (map table_of l.files) (map clash_view l.clashes))) (drop l.fault-index l.fault-items)
    ≡ subjects_of l.initial.reports.items ++ map (value_subject (path_of l.file) (is_accepted (table_of l.file) (map table_of l.files) (map clash_view l.clashes))) l.file.found.values.items
