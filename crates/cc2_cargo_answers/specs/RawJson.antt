-- What raw values show as JSON: each table is an object, with its keys in the order of their bytes. What is at or below a secret
-- key is written as redacted, unless the form has tokens.
use Rattle.std.specs.Prelude.{◌≡◌, ℕ, Bool, false, not, ◌&&◌, ◌||◌, if◌then◌else◌, List, [], ◌∷◌, ◌++◌, codes, map, Option, Some, None}
use Rattle.std.specs.Str.{bytes_eq}
use Rattle.serde_json.specs.Data.{Data, null, boolean, number, string, array, object, Items, no_items, item, Members, no_members, member, put}
use Rattle.serde_json.specs.Find.{of_integer}
use Rattle.serde_json.specs.View.{items_of}
use Rattle.serde_json.specs.Written.{has_float}
use Rattle.toml.specs.Data as toml
use Rattle.cc2_value.specs.Cells.{field}
use Rattle.cc2_json.specs.Forms.{placed, redacted, told_at}
use Rattle.cc2_json.specs.Reader.{IsObjectInOrder, data_at}
use Rattle.cc2_json.specs.declared.form.Form.{Form}
use Rattle.cc2_cargo.specs.Raw as cell
use Rattle.cc2_cargo.specs.Raw.{RawCell, Path, RawValue}

-- a key at and below which values are secrets: the token of a registry, and the key that signs such tokens
abbrev pub is_secret_key : List ℕ → Bool
is_secret_key k = bytes_eq k (codes "token") || bytes_eq k (codes "secret-key")

-- that there is something, in the place of what is hidden
abbrev pub or_redacted : Bool → Data → Data
or_redacted hidden d = if hidden then redacted false d else d

-- a TOML value as JSON, in which secrets may be hidden; floats and dates are no values of any key
abbrev mutual
  pub toml_json : Bool → toml.Data → Data
  toml_json hides (toml.string s) = string s
  toml_json hides (toml.integer z) = number (of_integer z)
  toml_json hides (toml.float x) = null
  toml_json hides (toml.boolean b) = boolean b
  toml_json hides (toml.datetime t) = null
  toml_json hides (toml.array ds) = array (items_json hides ds)
  toml_json hides (toml.table ms) = object (members_json hides ms)

  pub items_json : Bool → toml.Items → Items
  items_json hides toml.no_items = no_items
  items_json hides (toml.item d ds) = item (toml_json hides d) (items_json hides ds)

  pub members_json : Bool → toml.Members → Members
  members_json hides toml.no_members = no_members
  members_json hides (toml.member k d ms) = member k (or_redacted (hides && is_secret_key k) (toml_json hides d)) (members_json hides ms)

-- a value, beside where it was set in a form with origins
abbrev pub setting_json : Form → RawValue → Data
setting_json form s = placed form.origins s.origin (toml_json (not form.tokens) s.value)

-- a single value or an array
abbrev pub raw_cell_json : Form → RawCell → Option Data
raw_cell_json form (cell.single s) = Some (setting_json form s)
raw_cell_json form (cell.array from ss) = Some (array (items_of (map (setting_json form) ss)))
raw_cell_json form cell.table = None

-- whether what is at a path is a secret, below something that is one or not: where one of its keys is secret
abbrev pub is_hidden : Bool → Path → Bool
is_hidden secret [] = secret
is_hidden secret (k ∷ p) = is_hidden (secret || is_secret_key k) p

-- what is written of a value that is a secret or not
abbrev pub told : Form → Bool → Data → Data
told form secret d = if secret then told_at form (field (codes "token")) d else d

-- the whole, which is a table
abbrev pub as_table : (Path → Option RawCell) → Path → Option RawCell
as_table look [] = Some cell.table
as_table look (k ∷ p) = look (k ∷ p)

-- the JSON of what is shown, below a secret key or not: its values, its tables with their keys in order, and nothing else. A value
-- at or below a secret key is written as the form has it.
pub record IsJson (form : Form) (secret : Bool) (look : Path → Option RawCell) (d : Data) : Type 0 where
  pub values : (p : Path) (c : RawCell) (v : Data) → look p ≡ Some c → raw_cell_json form c ≡ Some v
      → data_at p d ≡ Some (told form (is_hidden secret p) v)
  pub tables : (p : Path) → look p ≡ Some cell.table → IsObjectInOrder (data_at p d)
  pub nothing_else : (p : Path) (k : List ℕ) → look p ≡ Some cell.table → look (p ++ k ∷ []) ≡ None → data_at (p ++ k ∷ []) d ≡ None

-- such JSON, without a float, is put at the key
pub record IsJsonPut (form : Form) (key : List ℕ) (secret : Bool) (look : Path → Option RawCell) (ms ns : Members) : Type 0 where
  pub json : Data
  pub of : IsJson form secret look json
  pub free : has_float json ≡ false
  pub are : ns ≡ put key json ms
