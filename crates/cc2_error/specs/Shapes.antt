-- The names of the shapes of values.
use Rattle.std.specs.Prelude.{ℕ, List, codes}
use Rattle.cc2_error.specs.declared.error.Shape.{Shape}
use Rattle.cc2_error.specs.declared.error.Shape.TheVariants as shape

abbrev pub shape_text : Shape → List ℕ
shape_text shape.String = codes "string"
shape_text shape.Array = codes "array"
shape_text shape.Table = codes "table"
