use Rattle.std.proofs.Common.{◌≡◌, drop}
use Rattle.cc2_reports.specs.Problems.{problems_of}
use Rattle.cc2_reports.specs.Sarif.{occurs}
use Rattle.cc2_reports.proofs.sarif.occurs.Given as goal

-- those that are left have the answer
abbrev pub invariant-loop-report : goal.invariant-loop-report
invariant-loop-report l =
    occurs (problems_of (drop l.report-index l.reports)) l.word ≡ occurs (problems_of l.fn.reports) l.fn.word
