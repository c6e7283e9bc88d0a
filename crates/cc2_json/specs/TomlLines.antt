-- A configuration's JSON as lines of TOML: one for each value, with its dotted key. Where the JSON says where a value was
-- set, a comment does, and a list has a line for each item. TOML 1.0, keys, strings, arrays and comments.
use Rattle.std.specs.Prelude.{ℕ, Bool, true, false, ◌&&◌, ◌||◌, ◌==◌, nat_lt, if◌then◌else◌, List, [], ◌∷◌, ◌++◌, codes, Option, Some, None, option_and_then, is_some}
use Rattle.serde_json.specs.Data.{Data, null, boolean, number, string, array, object, Items, no_items, item, Members, no_members, member}
use Rattle.serde_json.specs.Find.{as_object, as_str, get}
use Rattle.serde_json.specs.Written.{compact_text}
use Rattle.toml_writer.specs.Text.{key_text, string_text}
use Rattle.cc2_json.specs.AtKey.{is_leaf}

-- a control character of ASCII
abbrev pub is_control : ℕ → Bool
is_control b = nat_lt b 32 || b == 127

-- the second byte of a control character from U+0080 on, whose first is 194
abbrev pub is_second : ℕ → Bool
is_second b = nat_lt b 160

-- a text with `?` in place of each control character, so that it stays on its line
abbrev pub printable : List ℕ → List ℕ
printable [] = []
printable (b ∷ []) = (if is_control b then 63 else b) ∷ []
printable (b ∷ (c ∷ s)) =
    if is_control b then 63 ∷ printable (c ∷ s)
    else if b == 194 && is_second c then 63 ∷ printable s
    else b ∷ printable (c ∷ s)

abbrev pub place_text : List ℕ → Data → Option (List ℕ)
place_text key d = option_and_then as_str (get key d)

-- a file, a variable, a file of the command line, or an override of the command line
abbrev pub place_comment : Option (List ℕ) → Option (List ℕ) → Option (List ℕ) → Bool → List ℕ
place_comment (Some path) variable given is_table = codes " # " ++ printable path
place_comment None (Some variable) given is_table = codes " # environment variable `" ++ (printable variable ++ codes "`")
place_comment None None (Some path) is_table = codes " # " ++ printable path
place_comment None None None true = codes " # --config cli option"
place_comment None None None false = []

-- where a value was set; nothing of a value that was set nowhere
abbrev pub comment : Option Data → List ℕ
comment None = []
comment (Some origin) =
    place_comment (place_text (codes "file") origin) (place_text (codes "variable") origin)
    (place_text (codes "command-line") origin) (is_some (as_object origin))

-- a text, a number or a truth value
abbrev pub single_text : Data → List ℕ
single_text null = compact_text null
single_text (boolean b) = compact_text (boolean b)
single_text (number n) = compact_text (number n)
single_text (string s) = string_text s
single_text (array ds) = compact_text (array ds)
single_text (object ms) = compact_text (object ms)

-- a value on one line
abbrev mutual
  pub value_text : Data → List ℕ
  value_text null = single_text null
  value_text (boolean b) = single_text (boolean b)
  value_text (number n) = single_text (number n)
  value_text (string s) = single_text (string s)
  value_text (array ds) = codes "[" ++ with_commas [] ds
  value_text (object ms) = codes "{" ++ pairs (codes " ") (codes "}") ms

  -- items, the first after this separator, and the end of the array
  pub with_commas : List ℕ → Items → List ℕ
  with_commas separator no_items = codes "]"
  with_commas separator (item d ds) = separator ++ (value_text d ++ with_commas (codes ", ") ds)

  -- keys with their values, the first after this separator, and the end of the inline table
  pub pairs : List ℕ → List ℕ → Members → List ℕ
  pairs separator end no_members = end
  pairs separator end (member k d ms) = separator ++ ((key_text k ++ codes " = ") ++ (value_text d ++ pairs (codes ", ") (codes " }") ms))

-- an item on a line of its own
abbrev pub item_line : Data → Option Data → List ℕ
item_line d origin = codes "    " ++ (value_text d ++ (codes "," ++ (comment origin ++ codes "\n")))

-- items that were set at one place
abbrev pub listed_lines : Option Data → Items → List ℕ
listed_lines origin no_items = []
listed_lines origin (item d ds) = item_line d origin ++ listed_lines origin ds

abbrev pub own_item_line : Option Data → Option Data → List ℕ
own_item_line None origin = []
own_item_line (Some d) origin = item_line d origin

-- items, each of which says where it was set
abbrev pub own_lines : Items → List ℕ
own_lines no_items = []
own_lines (item d ds) = own_item_line (get (codes "value") d) (get (codes "origin") d) ++ own_lines ds

-- a value beside where it was set; where the value isn't shown it is redacted
abbrev pub leaf_text : Option Data → Option Data → List ℕ
leaf_text None origin = codes "\"[REDACTED]\"" ++ comment origin
leaf_text (Some null) origin = value_text null ++ comment origin
leaf_text (Some (boolean b)) origin = value_text (boolean b) ++ comment origin
leaf_text (Some (number n)) origin = value_text (number n) ++ comment origin
leaf_text (Some (string s)) origin = value_text (string s) ++ comment origin
leaf_text (Some (array ds)) origin = codes "[\n" ++ (listed_lines origin ds ++ codes "]")
leaf_text (Some (object ms)) origin = value_text (object ms) ++ comment origin

-- what follows the equals sign, with where values were set or without
abbrev pub shown_value : Bool → Data → List ℕ
shown_value origins null = value_text null
shown_value origins (boolean b) = value_text (boolean b)
shown_value origins (number n) = value_text (number n)
shown_value origins (string s) = value_text (string s)
shown_value true (array ds) = codes "[\n" ++ (own_lines ds ++ codes "]")
shown_value false (array ds) = value_text (array ds)
shown_value origins (object ms) = leaf_text (get (codes "value") (object ms)) (get (codes "origin") (object ms))

-- the line of a value, or its lines
abbrev pub toml_line : Bool → List ℕ → Data → List ℕ
toml_line origins key d = key ++ (codes " = " ++ (shown_value origins d ++ codes "\n"))

-- the dotted key of what is at a name below a key
abbrev pub key_below : List ℕ → List ℕ → List ℕ
key_below [] name = key_text name
key_below (b ∷ key) name = (b ∷ key) ++ (codes "." ++ key_text name)

abbrev pub dotted_from : List ℕ → List (List ℕ) → List ℕ
dotted_from key [] = key
dotted_from key (piece ∷ pieces) = dotted_from (key_below key piece) pieces

-- the members of a table; a value beside its origin is no table
abbrev pub members_in : Bool → Data → Option Members
members_in origins d = if is_leaf origins d then None else as_object d

-- the lines of what is at a key: of each value below it, in the order of the keys' bytes
abbrev mutual
  pub lines_at : Bool → List ℕ → Data → List ℕ
  lines_at origins key null = toml_line origins key null
  lines_at origins key (boolean b) = toml_line origins key (boolean b)
  lines_at origins key (number n) = toml_line origins key (number n)
  lines_at origins key (string s) = toml_line origins key (string s)
  lines_at origins key (array ds) = toml_line origins key (array ds)
  lines_at origins key (object ms) =
      if is_leaf origins (object ms) then toml_line origins key (object ms) else lines_below origins key ms

  pub lines_below : Bool → List ℕ → Members → List ℕ
  lines_below origins key no_members = []
  lines_below origins key (member name d ms) = lines_at origins (key_below key name) d ++ lines_below origins key ms

-- the lines of what is at the pieces of a key
abbrev pub toml_lines : Bool → List (List ℕ) → Data → List ℕ
toml_lines origins pieces d = lines_at origins (dotted_from [] pieces) d
