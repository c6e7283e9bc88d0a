use Rattle.std.proofs.Common.{◌≡◌, ◌++◌, All, length}
use Rattle.cc2_reports.specs.Positions.{IsPlaced, source_text}
use Rattle.cc2_reports.specs.Problems.{subjects_of}
use Rattle.cc2_reports.proofs.position.placed.Given as goal

-- the reports taken are placed, and the others follow them
abbrev pub invariant-loop-report : goal.invariant-loop-report
invariant-loop-report l =
    (l.yielded ++ l.report-iterator.rest.items ≡ l.fn.reports.items)
    × (l.report-iterator.rest.len ≡ length l.report-iterator.rest.items)
    × (subjects_of l.placed.items ≡ subjects_of l.yielded)
    × All (IsPlaced (source_text l.source)) l.placed.items
