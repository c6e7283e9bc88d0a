-- What configuration files have at each key before any key is decoded, as cells at paths of keys.
-- Cargo Reference, Configuration, configuration format.
use Rattle.std.specs.Prelude.{ℕ, Bool, true, false, List, [], ◌∷◌, map, Option, Some, None, option_map, String, if◌then◌else◌}
use Rattle.std.specs.BTreeMap.{BTreeMap, get_by_text}
use Rattle.std.specs.Str.{bytes_eq}
use Rattle.std.specs.declared.alloc.Global.{Global}
use Rattle.toml.specs.Data.{Data}
use Rattle.toml.specs.View.{view}
use Rattle.toml.specs.declared.value.Value.{Value as TomlValue}
use Rattle.cc2_value.specs.Cells.{Origin, command_line}
use Rattle.cc2_value.specs.Maps.{found}
use Rattle.cc2_value.specs.Values.{origin_of}
use Rattle.cc2_value.specs.declared.value.Value.{Value}
use Rattle.cc2_cargo.specs.declared.layer.LayerOrigin.{LayerOrigin as CodeLayerOrigin}
use Rattle.cc2_cargo.specs.declared.raw.Raw.{Raw, out-Raw}
use Rattle.cc2_cargo.specs.declared.raw.Raw.TheOpen.{Raw-F}
use Rattle.cc2_cargo.specs.declared.raw.RawArray.{RawArray}

-- the keys that lead to a value
abbrev pub Path : Type 0
Path = List (List ℕ)

-- a TOML value and where it was set
pub record RawValue : Type 0 where
  pub value : Data
  pub origin : Option Origin

-- where a layer's values are set, and its turn
pub record LayerOrigin : Type 0 where
  pub origin : Option Origin
  pub turn : ℕ

abbrev pub layer_origin : CodeLayerOrigin → LayerOrigin
layer_origin o = record { origin = Some (origin_of o.definition); turn = o.turn }

-- the command line sets it
abbrev pub is_of_override : Option Origin → Bool
is_of_override (Some (command_line path)) = true
is_of_override origin = false

-- what is at a path: a single value, an array, with where it is set as a whole and its items, or a table
pub data RawCell : Type 0 where
  single : RawValue → RawCell
  array : LayerOrigin → List RawValue → RawCell
  table : RawCell

abbrev pub raw_value : Value TomlValue → RawValue
raw_value v = record { value = view v.val; origin = option_map origin_of v.definition }

abbrev pub array_origin : RawArray → LayerOrigin
array_origin a = record { origin = option_map origin_of a.definition; turn = a.turn }

abbrev pub array_cell : RawArray → RawCell
array_cell a = array (array_origin a) (map raw_value a.items.items)

-- the cell of the value itself
abbrev pub own_cell : Raw-F Raw → RawCell
own_cell (Raw-F.Single v) = single (raw_value v)
own_cell (Raw-F.Array a) = array_cell a
own_cell (Raw-F.Table m) = table

-- what a table has at a key
abbrev pub member_of : List ℕ → Raw-F Raw → Option Raw
member_of k (Raw-F.Single v) = None
member_of k (Raw-F.Array a) = None
member_of k (Raw-F.Table m) = get_by_text m k

abbrev pub in_member : (Raw → Option RawCell) → Option Raw → Option RawCell
in_member look None = None
in_member look (Some r) = look r

-- a value has its own cell, and a table those of its members below their keys
abbrev pub below_raw : Path → Raw → Option RawCell
below_raw [] r = Some (own_cell (out-Raw r))
below_raw (k ∷ p) r = in_member (below_raw p) (member_of k (out-Raw r))

abbrev pub raw_at : Raw → Path → Option RawCell
raw_at r p = below_raw p r

abbrev pub member_at : Option Raw → Path → Option RawCell
member_at o p = in_member (below_raw p) o

-- the cells of members, each below its key
abbrev pub raw_members_at : BTreeMap (String Global) Raw → Path → Option RawCell
raw_members_at m [] = None
raw_members_at m (k ∷ p) = member_at (get_by_text m k) p

-- the cells of a value, below a key
abbrev pub raw_entry_at : List ℕ → Raw → Path → Option RawCell
raw_entry_at key r [] = None
raw_entry_at key r (k ∷ p) = if bytes_eq key k then raw_at r p else None

-- the cells of entries, each below its key
abbrev pub entries_at : List (String Global × Raw) → Path → Option RawCell
entries_at es [] = None
entries_at es (k ∷ p) = member_at (found k es) p
