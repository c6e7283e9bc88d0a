-- How cells are read back from their bytes.
use Rattle.std.specs.Prelude.{◌≡◌, ℕ, ◌==◌, ℤ, pos, neg_ℤ, Bool, true, false, if◌then◌else◌, List, [], ◌∷◌, map, Option, Some, None}
use Rattle.cc2_ask.specs.Fields.{Front, number_at, field_at}
use Rattle.cc2_ask.specs.Written.{byte_at, listed_at, both_at, made_at, judged_at, all_at}
use Rattle.cc2_resolved.specs.Variables.{Variable}
use Rattle.cc2_value.specs.Cells.{Key, field, name, KeyPath}
use Rattle.cc2_resolved_cells.specs.Bytes.{cells_bytes}
use Rattle.cc2_resolved_cells.specs.Cells.{ResolvedCell}
use Rattle.cc2_resolved_cells.specs.Values.{ValueItem, text, list, Value, number, truth, one, several, place, variable, written_value}

-- a byte that is 1 or 0
abbrev pub truth_of_byte : ℕ → Option Bool
truth_of_byte b = if b == 1 then Some true else if b == 0 then Some false else None

abbrev pub truth_at : List ℕ → Front Bool
truth_at bytes = judged_at truth_of_byte byte_at bytes

-- whether it is negative, and its absolute value
abbrev pub signed : Bool × ℕ → ℤ
signed (false, n) = pos n
signed (true, n) = neg_ℤ (pos n)

abbrev pub integer_at : List ℕ → Front ℤ
integer_at bytes = made_at signed (both_at truth_at number_at) bytes

abbrev pub item_after_kind : ℕ → List ℕ → Front ValueItem
item_after_kind kind bytes =
    if kind == 116 then made_at text field_at bytes
    else if kind == 97 then made_at list (listed_at field_at) bytes
    else None

abbrev pub item_at : List ℕ → Front ValueItem
item_at [] = None
item_at (kind ∷ bytes) = item_after_kind kind bytes

-- the value's text, and the two marks
abbrev pub marked_variable : List ℕ × (Bool × Bool) → Variable
marked_variable v = record { value = v.0; force = v.1.0; relative = v.1.1 }

abbrev pub variable_at : List ℕ → Front Variable
variable_at bytes = made_at marked_variable (both_at field_at (both_at truth_at truth_at)) bytes

abbrev pub value_after_kind : ℕ → List ℕ → Front Value
value_after_kind kind bytes =
    if kind == 105 then made_at number integer_at bytes
    else if kind == 98 then made_at truth truth_at bytes
    else if kind == 112 then made_at several (listed_at item_at) bytes
    else if kind == 101 then Some (place, bytes)
    else if kind == 118 then made_at variable variable_at bytes
    else made_at one (item_after_kind kind) bytes

abbrev pub cell_value_at : List ℕ → Front Value
cell_value_at [] = None
cell_value_at (kind ∷ bytes) = value_after_kind kind bytes

abbrev pub key_after_kind : ℕ → List ℕ → Front Key
key_after_kind kind bytes =
    if kind == 102 then made_at field field_at bytes
    else if kind == 110 then made_at name field_at bytes
    else None

abbrev pub key_at : List ℕ → Front Key
key_at [] = None
key_at (kind ∷ bytes) = key_after_kind kind bytes

-- a list of keys, and a value
abbrev pub cell_at : List ℕ → Front (KeyPath × Value)
cell_at bytes = both_at (listed_at key_at) cell_value_at bytes

-- the cells of bytes, with nothing after them
abbrev pub cells_of : List ℕ → Option (List (KeyPath × Value))
cells_of bytes = all_at cell_at bytes

-- cells, as they are read: each path, and what is written of its answer
abbrev pub paths_and_values : List ResolvedCell → List (KeyPath × Value)
paths_and_values cells = map (λ c. (c.0, written_value c.1)) cells

-- the bytes are those of cells that are read back from them
pub record AreBytesOf (cells : List ResolvedCell) (bytes : List ℕ) : Type 0 where
  pub are : bytes ≡ cells_bytes cells
  pub read : cells_of bytes ≡ Some (paths_and_values cells)
