-- What merged settings have at a path of keys.
use Rattle.std.specs.Prelude.{Bool, true, false, [], ◌∷◌, Option, Some, None}
use Rattle.cc2_cargo.specs.Raw.{Path, RawCell, single, array, table, own_cell}
use Rattle.cc2_cargo.specs.declared.raw.Raw.{out-Raw}
use Rattle.cc2_cargo_settings.specs.declared.found.Found.{Found as CodeFound}
use Rattle.cc2_cargo_settings.specs.declared.found.Found.TheVariants as code

-- nothing, a cell, or a value on the way that is no table
pub data Lookup : Type 0 where
  nowhere : Lookup
  at : RawCell → Lookup
  blocked : Lookup

abbrev pub found_view : CodeFound → Lookup
found_view code.Nowhere = nowhere
found_view (code.At raw) = at (own_cell (out-Raw raw.now))
found_view code.Blocked = blocked

-- something is there, or on the way
abbrev pub is_found : Lookup → Bool
is_found nowhere = false
is_found (at c) = true
is_found blocked = true

abbrev pub reached : Option RawCell → Lookup
reached None = nowhere
reached (Some c) = at c

-- what is below a cell
abbrev pub through : Option RawCell → Lookup → Lookup
through None below = nowhere
through (Some table) below = below
through (Some (single s)) below = blocked
through (Some (array from ss)) below = blocked

-- what is at a path
abbrev pub lookup_at : (Path → Option RawCell) → Path → Lookup
lookup_at look [] = nowhere
lookup_at look (k ∷ []) = reached (look (k ∷ []))
lookup_at look (k ∷ (l ∷ path)) = through (look (k ∷ [])) (lookup_at (λ p. look (k ∷ p)) (l ∷ path))
