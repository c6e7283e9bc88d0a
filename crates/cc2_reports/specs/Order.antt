-- The order of a file's problems.
use Rattle.std.specs.Prelude.{ℕ, List, Option, Some, None}
use Rattle.std.specs.List.Sorted.{IsPermutation, IsSortedByKey, IsStableByKey}
use Rattle.std.specs.Ordering.{nat_cmp, ordering_then}
use Rattle.std.specs.declared.cmp.Ordering.{Ordering}
use Rattle.cc2_reports.specs.declared.location.Span.{Span}
use Rattle.cc2_reports.specs.declared.report.Report.{Report}

-- the line and the column at which a piece begins; zeros of the file as a whole
abbrev pub place_of : Option Span → ℕ × ℕ
place_of None = (0, 0)
place_of (Some span) = (span.start.line, span.start.column)

-- by the line, and in a line by the column
abbrev pub place_cmp : ℕ × ℕ → ℕ × ℕ → Ordering
place_cmp x y = ordering_then (nat_cmp x.0 y.0) (nat_cmp x.1 y.1)

-- the same reports by their places, those of one place in the order that they had
pub record AreInOrder (before after : List Report) : Type 0 where
  pub same : IsPermutation before after
  pub sorted : IsSortedByKey (λ r. place_of r.span) place_cmp after
  pub stable : IsStableByKey (λ r. place_of r.span) place_cmp before after
