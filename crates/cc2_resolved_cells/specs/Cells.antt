-- Cells: a key path, and the answer there.
use Rattle.std.specs.Prelude.{◌≡◌, ℕ, Bool, true, false, if◌then◌else◌, List, [], ◌∷◌, ◌++◌, map, flat_map, zip}
use Rattle.std.specs.Prelude.{Option, Some, None, String, string_bytes}
use Rattle.std.specs.Option.{option_to_list}
use Rattle.std.specs.Str.{bytes_eq}
use Rattle.std.specs.declared.alloc.Global.{Global}
use Rattle.cc2_value.specs.Cells.{Key, field, name, KeyPath}
use Rattle.cc2_resolved.specs.Answers.{Answer, entry}
use Rattle.cc2_resolved.specs.Rows.{Row}

abbrev pub ResolvedCell : Type 0
ResolvedCell = KeyPath × Answer

-- what is shown at each key path
abbrev pub ShownAnswers : Type 0
ShownAnswers = KeyPath → Option Answer

abbrev pub is_same_key : Key → Key → Bool
is_same_key (field a) (field b) = bytes_eq a b
is_same_key (name a) (name b) = bytes_eq a b
is_same_key (field a) (name b) = false
is_same_key (name a) (field b) = false

abbrev pub is_same_path : KeyPath → KeyPath → Bool
is_same_path [] [] = true
is_same_path [] (l ∷ q) = false
is_same_path (k ∷ p) [] = false
is_same_path (k ∷ p) (l ∷ q) = if is_same_key k l then is_same_path p q else false

-- the answers that cells have at a key path, in their order
abbrev pub answers_at : List ResolvedCell → KeyPath → List Answer
answers_at [] p = []
answers_at (c ∷ cs) p = if is_same_path c.0 p then c.1 ∷ answers_at cs p else answers_at cs p

-- at each key path the cells have the one answer that is shown there, and none where nothing is shown
pub record ShowExactly (cells : List ResolvedCell) (look : ShownAnswers) : Type 0 where
  pub are : (p : KeyPath) → answers_at cells p ≡ option_to_list (look p)

-- the cells below a key
abbrev pub cells_below : Key → List ResolvedCell → List ResolvedCell
cells_below k [] = []
cells_below k (c ∷ cs) = (k ∷ c.0, c.1) ∷ cells_below k cs

-- one cell, of a value that is there
abbrev pub value_cells : Option Answer → List ResolvedCell
value_cells None = []
value_cells (Some a) = ([], a) ∷ []

-- a part of a row: its key, and the cells there
abbrev pub RowPart : Type 0
RowPart = List ℕ × List ResolvedCell

-- the cells of parts in a row, each below its key
abbrev pub cells_of_parts : List RowPart → List ResolvedCell
cells_of_parts parts = flat_map (λ part. cells_below (field part.0) part.1) parts

-- the cells of each part
abbrev pub cells_in : List RowPart → List (List ResolvedCell)
cells_in parts = map (λ part. part.1) parts

-- the cells of parts that have these keys
abbrev pub row_cells : List (List ℕ) → List (List ResolvedCell) → List ResolvedCell
row_cells ks parts = cells_of_parts (zip ks parts)

-- the cells of a map's members, each below its name
abbrev pub cells_of_map : {V : Type 0} → (V → List ResolvedCell) → List (String Global × V) → List ResolvedCell
cells_of_map cells [] = []
cells_of_map cells (e ∷ es) = cells_below (name (string_bytes e.0)) (cells e.1) ++ cells_of_map cells es

-- the cells of a table that is a member of a map
abbrev pub entry_cells : List ResolvedCell → List ResolvedCell
entry_cells cells = ([], entry) ∷ cells

-- what the fields of a table show, and their keys
abbrev pub row_keys : {A : Type 0} → List (Row A) → List (List ℕ)
row_keys rows = map (λ r. r.key) rows

abbrev pub row_looks : {A : Type 0} → List (Row A) → A → List ShownAnswers
row_looks rows a = map (λ r. r.shows a) rows

-- the cells of each field of a table whose fields are values
abbrev pub row_values : {A : Type 0} → List (Row A) → A → List (List ResolvedCell)
row_values rows a = map (λ r. value_cells (r.shows a [])) rows

-- the cells of each part are those that its look shows
abbrev pub AllShowExactly : List (List ResolvedCell) → List ShownAnswers → Type 0
AllShowExactly [] [] = Unit {0}
AllShowExactly [] (look ∷ looks) = ⊥
AllShowExactly (cells ∷ parts) [] = ⊥
AllShowExactly (cells ∷ parts) (look ∷ looks) = ShowExactly cells look × AllShowExactly parts looks
