use Rattle.std.proofs.Common.{◌≡◌, ◌++◌, map}
use Rattle.std.specs.Vec.Iter.{into_iter_items}
use Rattle.cc2_reports.specs.Problems.{problems_of}
use Rattle.cc2_reports.specs.Selected.{new_among}
use Rattle.cc2_reports.proofs.select.append_new.Given as goal

-- what was appended, and what is new of those that are left
abbrev pub invariant-loop-report : goal.invariant-loop-report
invariant-loop-report l =
    problems_of l.all.items
    ++ new_among (map (λ word. word.now) l.allowed) (problems_of l.all.items) (problems_of (into_iter_items l.report-iterator))
    ≡ problems_of l.fn.all.items
    ++ new_among (map (λ word. word.now) l.fn.allowed) (problems_of l.fn.all.items) (problems_of l.fn.found.items)
