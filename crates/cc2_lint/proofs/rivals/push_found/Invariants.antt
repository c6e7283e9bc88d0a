use Rattle.std.proofs.Common.{◌≡◌, ◌++◌, drop, map}
use Rattle.cc2_reports.specs.Problems.{subjects_of}
use Rattle.cc2_lint_settings.specs.Views.{rival_view}
use Rattle.cc2_lint.specs.Subjects.{rival_subject}
use Rattle.cc2_lint.proofs.rivals.push_found.Given as goal

abbrev pub invariant-loop-rival : goal.invariant-loop-rival
invariant-loop-rival l =
    subjects_of l.reports.items ++ map (rival_subject l.file) (map rival_view (drop l.rival-index l.found))
    ≡ subjects_of l.initial.reports.items ++ map (rival_subject l.file) (map rival_view l.found)
