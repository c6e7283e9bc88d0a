-- Which variable sets what a file has at a path of keys, by the JSON of what variables set.
use Rattle.std.specs.Prelude.{ℕ, Bool, true, false, ◌&&◌, List, [], ◌∷◌, codes, bytes_eq, Option, Some, None, option_and_then, if◌then◌else◌}
use Rattle.std.specs.Option.{is_some}
use Rattle.serde_json.specs.Data.{Data, Items, no_items, item}
use Rattle.serde_json.specs.Find.{as_array, as_str, get}
use Rattle.cc2_json.specs.AtKey.{at_key}

-- the variable that set a single value: that of its origin
abbrev pub variable_of : Data → Option (List ℕ)
variable_of d = option_and_then as_str (option_and_then (get (codes "variable")) (get (codes "origin") d))

-- variables set all of these items
abbrev pub all_set : Items → Bool
all_set no_items = true
all_set (item d ds) = is_some (variable_of d) && all_set ds

-- the variable that set the first of these items, where variables set all of them
abbrev pub setter_of_items : Items → Option (List ℕ)
setter_of_items no_items = None
setter_of_items (item d ds) = if all_set ds then variable_of d else None

abbrev pub setter_by : Option Items → Data → Option (List ℕ)
setter_by (Some ds) d = setter_of_items ds
setter_by None d = variable_of d

-- the variable that set a value or a whole list
abbrev pub setter_of : Data → Option (List ℕ)
setter_of d = setter_by (as_array d) d

-- the key of the browser: what a file has there takes precedence over the variable
abbrev pub is_browser : List (List ℕ) → Bool
is_browser [] = false
is_browser (table ∷ []) = false
is_browser (table ∷ (key ∷ [])) = bytes_eq table (codes "doc") && bytes_eq key (codes "browser")
is_browser (table ∷ (key ∷ (more ∷ path))) = false

-- the variable that sets what a file has at a path of keys, by the JSON of what variables set
abbrev pub setter_at : List (List ℕ) → Data → Option (List ℕ)
setter_at path d = if is_browser path then None else option_and_then setter_of (at_key true path d)
