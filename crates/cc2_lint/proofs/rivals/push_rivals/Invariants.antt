use Rattle.std.proofs.Common.{◌≡◌, ◌++◌, drop, map}
use Rattle.cc2_reports.specs.Problems.{subjects_of}
use Rattle.cc2_lint.specs.Files.{rival_subjects, rivals_view}
use Rattle.cc2_lint.proofs.rivals.push_rivals.Given as goal

abbrev pub invariant-loop-one : goal.invariant-loop-one
invariant-loop-one l =
    subjects_of l.reports.items ++ rival_subjects l.file (map rivals_view (drop l.one-index l.rivals)) l.number
    ≡ subjects_of l.initial.reports.items ++ rival_subjects l.file (map rivals_view l.rivals) l.number
