-- How settings are printed.
use Rattle.std.specs.Prelude.{ℕ, ◌+◌, ◌/◌, ◌%◌, ◌==◌, nat_lt, Bool, true, false, ◌||◌, if◌then◌else◌, List, [], ◌∷◌, ◌++◌, flat_map, codes, Option, Some, None}
use Rattle.std.specs.Fmt.{decimal, signed_decimal}
use Rattle.cc2_value.specs.Cells.{KeyPath, field, Cell, Single, Text, Items, Joined, Entry, Undecoded, Marks, Word, Origin, Setting, Payload, number, truth, word, command, provider}
use Rattle.cc2_value.specs.Origins.{origin_text}

-- a hexadecimal digit in upper case
abbrev pub hex_digit : ℕ → ℕ
hex_digit n = if nat_lt n 10 then 48 + n else 55 + n

-- a quote or a backslash is escaped by a backslash; a control character of ASCII is `\xNN`
abbrev pub quoted_byte : ℕ → List ℕ
quoted_byte b =
    if (b == 34 || b == 92) then 92 ∷ b ∷ []
    else (if (nat_lt b 32 || b == 127) then 92 ∷ 120 ∷ hex_digit (b / 16) ∷ hex_digit (b % 16) ∷ [] else b ∷ [])

abbrev pub quoted : List ℕ → List ℕ
quoted text = 34 ∷ (flat_map quoted_byte text ++ 34 ∷ [])

abbrev pub truth_text : Bool → List ℕ
truth_text true = codes "true"
truth_text false = codes "false"

-- a single value; of the table `build` it is a number, a truth value or a text
abbrev pub payload_text : Payload → List ℕ
payload_text (number z) = signed_decimal z
payload_text (truth b) = truth_text b
payload_text (word text) = quoted text
payload_text (command array path args) = []
payload_text (provider array p) = []

-- where the value was set
abbrev pub origin_part : Option Origin → List ℕ
origin_part None = []
origin_part (Some origin) = codes " # " ++ origin_text origin

abbrev pub line : List ℕ → List ℕ → Option Origin → List ℕ
line key value origin = codes "build." ++ (key ++ (codes " = " ++ (value ++ (origin_part origin ++ codes "\n"))))

abbrev pub place : ℕ → List ℕ
place n = codes "[" ++ (decimal n ++ codes "]")

-- a line for each item, with its place from n
abbrev pub item_lines : List ℕ → ℕ → List Word → List ℕ
item_lines key n [] = []
item_lines key n (w ∷ ws) = line (key ++ place n) (quoted w.text) w.origin ++ item_lines key (n + 1) ws

-- a line for each item, or one that says that there is none
abbrev pub list_lines : List ℕ → List Word → List ℕ
list_lines key [] = line key (codes "[]") None
list_lines key (w ∷ ws) = item_lines key 0 (w ∷ ws)

abbrev pub setting_line : List ℕ → Setting → List ℕ
setting_line key s = line key (payload_text s.payload) s.origin

-- the lines of the cell at a key; nothing where there is none
abbrev pub cell_lines : List ℕ → Option Cell → List ℕ
cell_lines key None = []
cell_lines key (Some (Single s)) = setting_line key s
cell_lines key (Some (Text ws)) = list_lines key ws
cell_lines key (Some (Items ws)) = list_lines key ws
cell_lines key (Some (Joined ss)) = []
cell_lines key (Some Entry) = []
cell_lines key (Some Undecoded) = []
cell_lines key (Some (Marks b d)) = []

-- the same of a text that isn't split: it has no place
abbrev pub whole_text_lines : List ℕ → List Word → List ℕ
whole_text_lines key [] = list_lines key []
whole_text_lines key (w ∷ []) = line key (quoted w.text) w.origin
whole_text_lines key (w ∷ (v ∷ ws)) = list_lines key (w ∷ (v ∷ ws))

abbrev pub whole_lines : List ℕ → Option Cell → List ℕ
whole_lines key None = []
whole_lines key (Some (Text ws)) = whole_text_lines key ws
whole_lines key (Some (Items ws)) = list_lines key ws
whole_lines key (Some (Single s)) = setting_line key s
whole_lines key (Some (Joined ss)) = []
whole_lines key (Some Entry) = []
whole_lines key (Some Undecoded) = []
whole_lines key (Some (Marks b d)) = []

-- a key, and the lines of the cell there
abbrev pub Printed : Type 0
Printed = List ℕ × (List ℕ → Option Cell → List ℕ)

-- the keys of the table `build`, in the order in which they are printed
abbrev pub build_keys : List Printed
build_keys =
    (codes "jobs", cell_lines)
    ∷ (codes "rustc", cell_lines)
    ∷ (codes "rustc-wrapper", cell_lines)
    ∷ (codes "rustc-workspace-wrapper", cell_lines)
    ∷ (codes "rustdoc", cell_lines)
    ∷ (codes "target", whole_lines)
    ∷ (codes "target-dir", cell_lines)
    ∷ (codes "build-dir", cell_lines)
    ∷ (codes "rustflags", cell_lines)
    ∷ (codes "rustdocflags", cell_lines)
    ∷ (codes "incremental", cell_lines)
    ∷ (codes "dep-info-basedir", cell_lines)
    ∷ []

-- the lines of a key
abbrev pub key_lines : (KeyPath → Option Cell) → Printed → List ℕ
key_lines m row = row.1 row.0 (m (field (codes "build") ∷ field row.0 ∷ []))

-- the lines of the table `build` of a configuration with these cells: those of each key, one after the other
abbrev pub build_lines : (KeyPath → Option Cell) → List ℕ
build_lines m = flat_map (key_lines m) build_keys
