-- How a value of any key is read from TOML: texts, whole numbers, booleans, arrays, and tables. No key may have a float or
-- a date. Cargo Reference, Configuration, configuration format.
use Rattle.std.specs.Prelude.{◌≡◌, ◌⊎◌, Bool, true, false, ◌&&◌, List, [], ◌∷◌, ◌++◌, map, Contains, Option, Some, None, if◌then◌else◌}
use Rattle.toml.specs.Data.{Data, string, integer, float, boolean, datetime, array, table, Items, no_items, item, Members, no_members, member, get, get_member}
use Rattle.cc2_error.specs.Causes.{refusal_of, plain, memory, wrong_type}
use Rattle.cc2_error.specs.declared.error.Error.{Error}
use Rattle.cc2_value.specs.Cells.{Origin}
use Rattle.cc2_cargo.specs.Raw as cell
use Rattle.cc2_cargo.specs.Raw.{LayerOrigin, RawCell, Path, RawValue, raw_at}
use Rattle.cc2_cargo.specs.declared.raw.Raw.{Raw}

-- it has no float and no date in it
abbrev mutual
  pub is_supported : Data → Bool
  is_supported (string s) = true
  is_supported (integer z) = true
  is_supported (float x) = false
  is_supported (boolean b) = true
  is_supported (datetime d) = false
  is_supported (array ds) = are_supported ds
  is_supported (table ms) = have_supported ms

  pub are_supported : Items → Bool
  are_supported no_items = true
  are_supported (item d ds) = is_supported d && are_supported ds

  pub have_supported : Members → Bool
  have_supported no_members = true
  have_supported (member k d ms) = is_supported d && have_supported ms

-- the path of an array that has one
abbrev pub array_paths : Items → List Path
array_paths ds = if are_supported ds then [] else [] ∷ []

-- the paths of the values that no key may have
abbrev mutual
  pub wrong_paths : Data → List Path
  wrong_paths (string s) = []
  wrong_paths (integer z) = []
  wrong_paths (float x) = [] ∷ []
  wrong_paths (boolean b) = []
  wrong_paths (datetime d) = [] ∷ []
  wrong_paths (array ds) = array_paths ds
  wrong_paths (table ms) = wrong_in ms

  pub wrong_in : Members → List Path
  wrong_in no_members = []
  wrong_in (member k d ms) = map (λ p. k ∷ p) (wrong_paths d) ++ wrong_in ms

abbrev pub value_set : Option Origin → Data → RawValue
value_set origin d = record { value = d; origin = origin }

abbrev pub values_set : Option Origin → Items → List RawValue
values_set origin no_items = []
values_set origin (item d ds) = value_set origin d ∷ values_set origin ds

-- an array that a layer sets, and each of its items
abbrev pub array_set : LayerOrigin → Items → RawCell
array_set from ds = cell.array from (values_set from.origin ds)

-- the cell of the value itself
abbrev pub own_cell_in : LayerOrigin → Data → Option RawCell
own_cell_in from (string s) = Some (cell.single (value_set from.origin (string s)))
own_cell_in from (integer z) = Some (cell.single (value_set from.origin (integer z)))
own_cell_in from (float x) = None
own_cell_in from (boolean b) = Some (cell.single (value_set from.origin (boolean b)))
own_cell_in from (datetime d) = None
own_cell_in from (array ds) = Some (array_set from ds)
own_cell_in from (table ms) = Some cell.table

abbrev pub in_data : (Data → Option RawCell) → Option Data → Option RawCell
in_data look None = None
in_data look (Some d) = look d

-- the cell at a path
abbrev pub cell_in : Path → LayerOrigin → Data → Option RawCell
cell_in [] from d = own_cell_in from d
cell_in (k ∷ p) from d = in_data (cell_in p from) (get k d)

-- the cells of members, each below its key
abbrev pub raw_cells_in : LayerOrigin → Members → Path → Option RawCell
raw_cells_in from ms [] = None
raw_cells_in from ms (k ∷ p) = in_data (cell_in p from) (get_member k ms)

-- one cell, and nothing below
abbrev pub one_at : RawCell → Path → Option RawCell
one_at c [] = Some c
one_at c (k ∷ p) = None

abbrev pub IsOne : RawCell → Raw → Type 0
IsOne c r = (p : Path) → raw_at r p ≡ one_at c p

-- what is read has these cells, and no value is wrong
abbrev pub IsRawRead : LayerOrigin → Data → Raw → Type 0
IsRawRead from d r = (wrong_paths d ≡ []) × ((p : Path) → raw_at r p ≡ cell_in p from d)

abbrev pub AreRawRead : LayerOrigin → Members → (Path → Option RawCell) → Type 0
AreRawRead from ms look = (wrong_in ms ≡ []) × ((p : Path) → look p ≡ raw_cells_in from ms p)

-- memory ran out, or the error has the path of a wrong value
abbrev pub IsWrong : List Path → Error → Type 0
IsWrong paths e = (refusal_of e ≡ plain memory) ⊎ ((p : Path) × Contains paths p × (refusal_of e ≡ plain (wrong_type p)))

-- an error of which P holds is recorded
abbrev pub IsFaulted : Option Error → (Error → Type 0) → Type 0
IsFaulted fault P = (e : Error) × (fault ≡ Some e) × P e
