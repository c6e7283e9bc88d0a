use Rattle.std.proofs.Common.{◌≡◌, drop, map}
use Rattle.cc2_reports.specs.Problems.{problem_of}
use Rattle.cc2_reports.specs.Selected.{is_allowed}
use Rattle.cc2_reports.proofs.select.is_allowed.Given as goal

-- those that are left have the answer
abbrev pub invariant-loop-word : goal.invariant-loop-word
invariant-loop-word l =
    is_allowed (map (λ word. word.now) (drop l.word-index l.allowed)) (problem_of l.report)
    ≡ is_allowed (map (λ word. word.now) l.fn.allowed) (problem_of l.fn.report)
