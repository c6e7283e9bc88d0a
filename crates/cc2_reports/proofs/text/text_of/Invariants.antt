use Rattle.std.proofs.Common.{◌≡◌, ◌++◌, drop}
use Rattle.cc2_reports.specs.Problems.{problems_of}
use Rattle.cc2_reports.specs.Text.{text_of}
use Rattle.cc2_reports.proofs.text.text_of.Given as goal

-- what was written, and the text of those that are left
abbrev pub invariant-loop-report : goal.invariant-loop-report
invariant-loop-report l =
    l.out.items ++ text_of l.is_coloured (problems_of (drop l.report-index l.reports))
    ≡ text_of l.fn.is_coloured (problems_of l.fn.reports)
