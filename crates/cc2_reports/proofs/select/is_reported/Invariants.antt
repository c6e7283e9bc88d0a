use Rattle.std.proofs.Common.{◌≡◌, drop}
use Rattle.cc2_reports.specs.Problems.{problem_of, problems_of}
use Rattle.cc2_reports.specs.Selected.{is_reported}
use Rattle.cc2_reports.proofs.select.is_reported.Given as goal

-- those that are left have the answer
abbrev pub invariant-loop-other : goal.invariant-loop-other
invariant-loop-other l =
    is_reported (problems_of (drop l.other-index l.all)) (problem_of l.report)
    ≡ is_reported (problems_of l.fn.all) (problem_of l.fn.report)
