-- What two cells that may be absent make.
use Rattle.std.proofs.Common.{◌≡◌, [], ◌∷◌, Option, Some, None, Result, Ok, refl}
use Rattle.cc2_error.specs.declared.error.Shape.{Shape}
use Rattle.cc2_value.specs.Cells.{Cell, joined, present}
use Rattle.cc2_value.specs.JoinedLaws.{joined_alone}

abbrev pub both : Option Cell → Option Cell → Result (Option Cell) (Shape × Shape)
both x y = joined (present (x ∷ y ∷ []))

pub both_none : (x : Option Cell) → both x None ≡ Ok x
both_none None = refl
both_none (Some c) = joined_alone (Some c)
