-- Which cells a value shows, by the form of its type.
use Rattle.std.specs.Prelude.{◌≡◌, ℕ, Bool, true, false, List, [], ◌∷◌, Option, Some, None, String, length, if◌then◌else◌}
use Rattle.std.specs.List.{slice_get}
use Rattle.std.specs.Str.{bytes_eq}
use Rattle.std.specs.BTreeMap.{BTreeMap, get_by_text}
use Rattle.std.specs.declared.alloc.Global.{Global}
use Rattle.cc2_value.specs.Cells.{field, name, KeyPath, Cell, Single, Entry, Setting}
use Rattle.cc2_value.specs.Ways.{Way}

-- one cell, at the value itself
abbrev pub leaf_at : {A : Type 0} → (A → Cell) → A → KeyPath → Option Cell
leaf_at cell a [] = Some (cell a)
leaf_at cell a (k ∷ p) = None

abbrev pub single_at : {A : Type 0} → (A → Setting) → A → KeyPath → Option Cell
single_at setting a p = leaf_at (λ x. Single (setting x)) a p

abbrev pub option_at : {A : Type 0} → (A → KeyPath → Option Cell) → Option A → KeyPath → Option Cell
option_at look None p = None
option_at look (Some a) p = look a p

-- the cells of a map's values, each below its name
abbrev pub map_at : {V : Type 0} → (V → KeyPath → Option Cell) → BTreeMap (String Global) V → KeyPath → Option Cell
map_at look m [] = None
map_at look m (field k ∷ p) = None
map_at look m (name k ∷ p) = option_at look (get_by_text m k) p

-- the cells of a list's items: that at a place is below any name whose length is the place
abbrev pub list_at : {V : Type 0} → (V → KeyPath → Option Cell) → List V → KeyPath → Option Cell
list_at look xs [] = None
list_at look xs (field k ∷ p) = None
list_at look xs (name k ∷ p) = option_at look (slice_get xs (length k)) p

-- a field of a table: its key, how it is read, and the cells that the table shows there
pub record Field (A : Type 0) : Type 0 where
  pub key : List ℕ
  pub way : Way
  pub cells : A → KeyPath → Option Cell

abbrev pub field_at : {A : Type 0} → List (Field A) → A → List ℕ → KeyPath → Option Cell
field_at [] a k p = None
field_at (f ∷ fs) a k p = if bytes_eq f.key k then f.cells a p else field_at fs a k p

-- a table that is a member of a map has a cell of its own there
abbrev pub place_at : Bool → Option Cell
place_at true = Some Entry
place_at false = None

-- the cells of a table: that of its place, and those of its fields, each below its key
abbrev pub table_at : {A : Type 0} → Bool → List (Field A) → A → KeyPath → Option Cell
table_at member fs a [] = place_at member
table_at member fs a (field k ∷ p) = field_at fs a k p
table_at member fs a (name k ∷ p) = None

-- of a table that is always there
abbrev pub fields_at : {A : Type 0} → List (Field A) → A → KeyPath → Option Cell
fields_at fs a p = table_at false fs a p

-- of a table that is a member of a map
abbrev pub entry_at : {A : Type 0} → List (Field A) → A → KeyPath → Option Cell
entry_at fs a p = table_at true fs a p

-- there is no cell anywhere
abbrev pub ShowsNothing : {A : Type 0} → (A → KeyPath → Option Cell) → A → Type 0
ShowsNothing look a = (p : KeyPath) → look a p ≡ None
