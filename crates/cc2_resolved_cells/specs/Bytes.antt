-- The bytes of cells. A number is four bytes, the lowest first; a field is a number and so many bytes; a list is a number
-- and so many fields.
use Rattle.std.specs.Prelude.{ℕ, ℤ, pos, ◌+◌, Bool, List, [], ◌∷◌, ◌++◌, length, nat_abs, int_lt, cond}
use Rattle.std.specs.List.{flat_map}
use Rattle.cc2_ask.specs.Fields.{number_bytes, field_bytes, list_bytes}
use Rattle.cc2_resolved.specs.Variables.{Variable}
use Rattle.cc2_value.specs.Cells.{Key, field, name, KeyPath}
use Rattle.cc2_resolved_cells.specs.Cells.{ResolvedCell}
use Rattle.cc2_resolved_cells.specs.Values.{ValueItem, text, list, Value, number, truth, one, several, place, variable, written_value}

abbrev pub truth_byte : Bool → ℕ
truth_byte b = cond b 1 0

-- whether it is negative, and its absolute value
abbrev pub integer_bytes : ℤ → List ℕ
integer_bytes z = truth_byte (int_lt z (pos 0)) ∷ number_bytes (nat_abs z)

-- `t` and a field, or `a` and a list
abbrev pub item_bytes : ValueItem → List ℕ
item_bytes (text t) = 116 ∷ field_bytes t
item_bytes (list ts) = 97 ∷ list_bytes ts

abbrev pub items_bytes : List ValueItem → List ℕ
items_bytes items = flat_map item_bytes items

-- the value's text, whether it takes precedence over the environment's, and whether it is relative
abbrev pub variable_bytes : Variable → List ℕ
variable_bytes v = field_bytes v.value ++ truth_byte v.force ∷ truth_byte v.relative ∷ []

-- one byte for the kind: `i`, `b`, `t`, `a`, `p`, `e` or `v`; and the content
abbrev pub value_bytes : Value → List ℕ
value_bytes (number z) = 105 ∷ integer_bytes z
value_bytes (truth b) = 98 ∷ truth_byte b ∷ []
value_bytes (one item) = item_bytes item
value_bytes (several items) = 112 ∷ (number_bytes (length items) ++ items_bytes items)
value_bytes place = 101 ∷ []
value_bytes (variable v) = 118 ∷ variable_bytes v

-- `f` where the key is a table's own field, `n` where it is a name that the file picks, and the key's text
abbrev pub key_bytes : Key → List ℕ
key_bytes (field k) = 102 ∷ field_bytes k
key_bytes (name k) = 110 ∷ field_bytes k

abbrev pub keys_bytes : KeyPath → List ℕ
keys_bytes p = flat_map key_bytes p

-- the number of keys, each key, and the value
abbrev pub cell_bytes : ResolvedCell → List ℕ
cell_bytes c = number_bytes (length c.0) ++ (keys_bytes c.0 ++ value_bytes (written_value c.1))

-- the bytes of cells, one after the other
abbrev pub cells_bytes : List ResolvedCell → List ℕ
cells_bytes cs = flat_map cell_bytes cs

-- the keys in front of a path: how many, and their bytes
pub record KeyPrefix : Type 0 where
  pub depth : ℕ
  pub bytes : List ℕ

-- the cell with these keys in front
abbrev pub cell_behind : KeyPrefix → ResolvedCell → List ℕ
cell_behind front c =
    number_bytes (front.depth + length c.0) ++ (front.bytes ++ (keys_bytes c.0 ++ value_bytes (written_value c.1)))

abbrev pub cells_behind : KeyPrefix → List ResolvedCell → List ℕ
cells_behind front cs = flat_map (cell_behind front) cs
