use Rattle.std.proofs.Common.{◌≡◌, drop}
use Rattle.cc2_reports.specs.Grades.{status_for}
use Rattle.cc2_reports.specs.Problems.{problems_of}
use Rattle.cc2_reports.proofs.grade.status_for.Given as goal

-- those that are left have the answer
abbrev pub invariant-loop-report : goal.invariant-loop-report
invariant-loop-report l =
    status_for l.deny (problems_of (drop l.report-index l.reports)) ≡ status_for l.fn.deny (problems_of l.fn.reports)
