use Rattle.std.proofs.Common.{◌≡◌, ◌+◌, ◌≤◌, drop}
use Rattle.cc2_reports.specs.Grades.{count_of}
use Rattle.cc2_reports.specs.Problems.{problems_of}
use Rattle.cc2_reports.proofs.grade.count_of.Given as goal

-- those that were counted, and those that are left
abbrev pub invariant-loop-report : goal.invariant-loop-report
invariant-loop-report l =
    (l.count + count_of l.level (problems_of (drop l.report-index l.reports)) ≡ count_of l.fn.level (problems_of l.fn.reports))
    × (l.count ≤ l.report-index)
