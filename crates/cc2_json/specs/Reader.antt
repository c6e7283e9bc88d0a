-- The JSON of what a value shows, by the keys that lead to each value and each table.
use Rattle.std.specs.Prelude.{◌≡◌, ◌⊎◌, ℕ, Bool, true, false, ◌||◌, List, [], ◌∷◌, ◌++◌, map, codes, Option, Some, None, option_map, option_and_then, is_some, if◌then◌else◌}
use Rattle.std.specs.Cmp.Lexicographic.{slice_cmp}
use Rattle.std.specs.Ordering.{nat_cmp}
use Rattle.std.specs.Str.{bytes_eq}
use Rattle.std.specs.declared.cmp.Ordering.TheVariants.{Less}
use Rattle.serde_json.specs.Data.{Data, object, Members, no_members, member}
use Rattle.serde_json.specs.Find.{get}
use Rattle.serde_json.specs.Written.{has_float}
use Rattle.cc2_value.specs.Cells.{Key, field, name, KeyPath, Cell, key_text, is_entry}
use Rattle.cc2_value.specs.Visits.{Look}
use Rattle.cc2_json.specs.Forms.{cell_data, told_at}
use Rattle.cc2_json.specs.Json.{IsObjectOf}
use Rattle.cc2_json.specs.Trees.{is_entry_at}
use Rattle.cc2_json.specs.declared.form.Form.{Form}

-- the JSON value at a path of keys
abbrev pub data_at : List (List ℕ) → Data → Option Data
data_at [] d = Some d
data_at (q ∷ qs) d = option_and_then (data_at qs) (get q d)

abbrev pub texts : KeyPath → List (List ℕ)
texts p = map key_text p

-- the last key of a path that begins with k
abbrev pub end_key : Key → KeyPath → Key
end_key k [] = k
end_key k (l ∷ p) = end_key l p

-- what the look shows below a key
abbrev pub below : Look → Key → Look
below look k p = look (k ∷ p)

-- the JSON of a value or an array at a key
abbrev pub cell_json : Form → Key → Option Cell → Option Data
cell_json form k None = None
cell_json form k (Some c) = if is_entry c then None else option_map (told_at form k) (cell_data form.origins c)

-- a table that is an entry of a map
abbrev pub is_named_entry : Key → Option Cell → Bool
is_named_entry (field k) c = false
is_named_entry (name k) c = is_entry_at c

-- the JSON of the value at a path below the key k
abbrev pub json_in : Form → Key → Look → KeyPath → Option Data
json_in form k look p = cell_json form (end_key k p) (look p)

-- a value is written there, or a table that is an entry of a map
abbrev pub is_written_in : Form → Key → Look → KeyPath → Bool
is_written_in form k look p = is_some (json_in form k look p) || is_named_entry (end_key k p) (look p)

-- nothing is written at the key or below it
abbrev pub IsUnwritten : Form → Key → Look → Type 0
IsUnwritten form k look = (p : KeyPath) → is_written_in form k look p ≡ false

-- no name on the path has the text of a field that is written
abbrev pub IsUnshadowed : Form → Look → KeyPath → Type 0
IsUnshadowed form look [] = Unit {0}
IsUnshadowed form look (field q ∷ p) = IsUnshadowed form (below look (field q)) p
IsUnshadowed form look (name q ∷ p) = IsUnwritten form (field q) (below look (field q)) × IsUnshadowed form (below look (name q)) p

-- a table is written there: an entry of a map, or one below which something is written
abbrev pub IsTableIn : Form → Key → Look → KeyPath → Type 0
IsTableIn form k look p = (is_named_entry (end_key k p) (look p) ≡ true) ⊎ ((l : Key) × (r : KeyPath) × (is_written_in form k look (p ++ l ∷ r) ≡ true))

-- the JSON of the value at a key path of the whole
abbrev pub json_at : Form → Look → KeyPath → Option Data
json_at form look [] = None
json_at form look (k ∷ p) = json_in form k (below look k) p

-- a table is written at a key path of the whole; the whole is a table
abbrev pub IsTableAt : Form → Look → KeyPath → Type 0
IsTableAt form look [] = Unit {0}
IsTableAt form look (k ∷ p) = IsTableIn form k (below look k) p

-- the key sorts before the keys of all members
abbrev pub ComesBefore : List ℕ → Members → Type 0
ComesBefore k no_members = Unit {0}
ComesBefore k (member l e ms) = (slice_cmp nat_cmp k l ≡ Less) × ComesBefore k ms

-- the keys are distinct, and in the order of their bytes
abbrev pub AreInOrder : Members → Type 0
AreInOrder no_members = Unit {0}
AreInOrder (member k d ms) = ComesBefore k ms × AreInOrder ms

abbrev pub IsObjectInOrder : Option Data → Type 0
IsObjectInOrder o = (ms : Members) × (o ≡ Some (object ms)) × AreInOrder ms

-- the keys lead to a table, to a value or into a value
abbrev pub IsExpected : Form → Look → List (List ℕ) → Type 0
IsExpected form look q =
    (p : KeyPath) × (r : List (List ℕ)) × IsUnshadowed form look p × (texts p ++ r ≡ q) × (((r ≡ []) × IsTableAt form look p) ⊎ (is_some (json_at form look p) ≡ true))

-- the JSON of what the look shows: its values, its tables with their keys in order, and nothing else
pub record IsJsonOfLook (form : Form) (look : Look) (d : Data) : Type 0 where
  pub values : (p : KeyPath) (v : Data) → IsUnshadowed form look p → json_at form look p ≡ Some v → data_at (texts p) d ≡ Some v
  pub tables : (p : KeyPath) → IsUnshadowed form look p → IsTableAt form look p → IsObjectInOrder (data_at (texts p) d)
  pub nothing_else : (q : List (List ℕ)) (v : Data) → data_at q d ≡ Some v → IsExpected form look q

-- whether it is the key of a token
abbrev pub is_token : Key → Bool
is_token (field k) = bytes_eq k (codes "token")
is_token (name k) = false

-- a token is a value, with nothing below it
abbrev pub TokensAreValues : Look → Type 0
TokensAreValues look = (p : KeyPath) (k l : Key) (r : KeyPath) → is_token k ≡ true → look (p ++ k ∷ l ∷ r) ≡ None

-- each object of the look is its JSON
abbrev pub ObjectsAreItsJson : Form → Look → Type 0
ObjectsAreItsJson form look = TokensAreValues look → (d : Data) → IsObjectOf form look d → IsJsonOfLook form look d

-- the look has one JSON
abbrev pub HasOneJson : Form → Look → Type 0
HasOneJson form look = (d e : Data) → IsJsonOfLook form look d → IsJsonOfLook form look e → d ≡ e

-- the JSON of the look has no float
abbrev pub HasNoFloat : Form → Look → Type 0
HasNoFloat form look = (d : Data) → IsJsonOfLook form look d → has_float d ≡ false
