-- What a copy of what is resolved keeps, and what a table with nothing in it shows.
use Rattle.std.specs.Prelude.{◌≡◌, List, [], ◌∷◌, Option, None}
use Rattle.cc2_value.specs.Cells.{KeyPath}
use Rattle.cc2_resolved.specs.Answers.{Answer}
use Rattle.cc2_resolved.specs.Rows.{Row}

-- at each key path the copy shows the same
pub record IsSame {A : Type 0} (shown : A → KeyPath → Option Answer) (a copy : A) : Type 0 where
  pub same : (p : KeyPath) → shown copy p ≡ shown a p

-- row by row
abbrev pub AllSame : {A : Type 0} → List (Row A) → A → A → Type 0
AllSame [] a copy = Unit {0}
AllSame (r ∷ rs) a copy = IsSame r.shows a copy × AllSame rs a copy

-- no row shows anything
abbrev pub AllEmpty : {A : Type 0} → List (Row A) → A → Type 0
AllEmpty [] a = Unit {0}
AllEmpty (r ∷ rs) a = ((p : KeyPath) → r.shows a p ≡ None) × AllEmpty rs a
