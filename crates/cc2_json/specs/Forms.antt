-- What a cell is as JSON, with where its values were set or without, and with tokens or without.
use Rattle.std.specs.Prelude.{ℕ, Bool, true, false, not, ◌&&◌, List, [], ◌∷◌, ◌++◌, map, flat_map, codes, Option, Some, None, if◌then◌else◌}
use Rattle.std.specs.Str.{bytes_eq}
use Rattle.serde_json.specs.Data.{Data, null, boolean, number, string, array, object, no_members, member}
use Rattle.serde_json.specs.Find.{get, of_integer}
use Rattle.serde_json.specs.View.{items_of}
use Rattle.cc2_value.specs.Cells as cell
use Rattle.cc2_value.specs.Cells.{Key, field, name, Cell, Origin, Payload, Provider, Word, Setting}
use Rattle.cc2_json.specs.declared.form.Form.{Form}

-- an object with one member
abbrev pub alone : List ℕ → Data → Data
alone key d = object (member key d no_members)

-- where a value was set
abbrev pub origin_data : Option Origin → Data
origin_data None = null
origin_data (Some (cell.file path)) = alone (codes "file") (string path)
origin_data (Some (cell.variable variable)) = alone (codes "variable") (string variable)
origin_data (Some (cell.command_line None)) = alone (codes "command-line") null
origin_data (Some (cell.command_line (Some path))) = alone (codes "command-line") (string path)

-- a value, beside where it was set in a form with origins
abbrev pub placed : Bool → Option Origin → Data → Data
placed true origin d = object (member (codes "origin") (origin_data origin) (member (codes "value") d no_members))
placed false origin d = d

-- words with a space in front of each
abbrev pub behind : List (List ℕ) → List ℕ
behind ts = flat_map (λ t. 32 ∷ t) ts

-- words with a space between each two
abbrev pub spaced_out : List (List ℕ) → List ℕ
spaced_out [] = []
spaced_out (t ∷ ts) = t ++ behind ts

-- words as they came: as an array, or as one text
abbrev pub words_data : Bool → List (List ℕ) → Data
words_data true texts = array (items_of (map string texts))
words_data false texts = string (spaced_out texts)

abbrev pub word_texts : List Word → List (List ℕ)
word_texts ws = map (λ w. w.text) ws

abbrev pub command_texts : Word → List Word → List (List ℕ)
command_texts path args = path.text ∷ word_texts args

abbrev pub provider_texts : Provider → List (List ℕ)
provider_texts (cell.builtin text) = text ∷ []
provider_texts (cell.token_from_stdout is_array path args) = codes "cargo:token-from-stdout" ∷ command_texts path args
provider_texts (cell.plugin is_array path args) = command_texts path args
provider_texts (cell.maybe_alias word) = word.text ∷ []

abbrev pub payload_data : Payload → Data
payload_data (cell.number z) = number (of_integer z)
payload_data (cell.truth b) = boolean b
payload_data (cell.word text) = string text
payload_data (cell.command is_array path args) = words_data is_array (command_texts path args)
payload_data (cell.provider is_array p) = words_data is_array (provider_texts p)

abbrev pub setting_data : Bool → Setting → Data
setting_data origins s = placed origins s.origin (payload_data s.payload)

abbrev pub word_data : Bool → Word → Data
word_data origins w = placed origins w.origin (string w.text)

-- where the first word was set
abbrev pub first_origin : List Word → Option Origin
first_origin [] = None
first_origin (w ∷ ws) = w.origin

-- a cell as JSON; what doesn't decode and marks are none
abbrev pub cell_data : Bool → Cell → Option Data
cell_data origins (cell.Single s) = Some (setting_data origins s)
cell_data origins (cell.Text ws) = Some (placed origins (first_origin ws) (words_data false (word_texts ws)))
cell_data origins (cell.Items ws) = Some (array (items_of (map (word_data origins) ws)))
cell_data origins (cell.Joined ss) = Some (array (items_of (map (setting_data origins) ss)))
cell_data origins cell.Entry = Some (object no_members)
cell_data origins cell.Undecoded = None
cell_data origins (cell.Marks flags doc_flags) = None

-- a token isn't written unless it is asked for
abbrev pub hides : Form → Key → Bool
hides form (field k) = not form.tokens && bytes_eq k (codes "token")
hides form (name k) = false

abbrev pub or_null : Option Data → Data
or_null None = null
or_null (Some d) = d

-- that there is a token, and where it was set in a form with origins
abbrev pub redacted : Bool → Data → Data
redacted true d = object (member (codes "origin") (or_null (get (codes "origin") d)) (member (codes "redacted") (boolean true) no_members))
redacted false d = string (codes "[REDACTED]")

-- what is written at a key
abbrev pub told_at : Form → Key → Data → Data
told_at form k d = if hides form k then redacted form.origins d else d
