-- What a copy of a value shows, where each value in it gets an origin or keeps its own.
use Rattle.std.specs.Prelude.{◌≡◌, Bool, true, false, List, map, Option, Some, None, option_map, if◌then◌else◌}
use Rattle.std.specs.Borrow.{Bor}
use Rattle.cc2_value.specs.Cells.{KeyPath, Origin, Word, Provider, builtin, token_from_stdout, plugin, maybe_alias, Payload, number, truth}
use Rattle.cc2_value.specs.Cells.{word, command, provider, Setting, Cell, Single, Text, Items, Joined, Entry, Undecoded, Marks}
use Rattle.cc2_value.specs.Values.{origin_of}
use Rattle.cc2_value.specs.declared.definition.Definition.{Definition}

-- the origin of the definition that is given, if one is
abbrev pub origin_given : Option (Bor Definition) → Option Origin
origin_given definition = option_map (λ d. origin_of d.now) definition

-- the origin that is given, else the one that was
abbrev pub origin_set : Option Origin → Option Origin → Option Origin
origin_set None was = was
origin_set (Some origin) was = Some origin

abbrev pub word_set : Option Origin → Word → Word
word_set origin w = record { text = w.text; origin = origin_set origin w.origin }

abbrev pub words_set : Option Origin → List Word → List Word
words_set origin ws = map (word_set origin) ws

abbrev pub provider_set : Option Origin → Provider → Provider
provider_set origin (builtin name) = builtin name
provider_set origin (token_from_stdout array path args) = token_from_stdout array (word_set origin path) (words_set origin args)
provider_set origin (plugin array path args) = plugin array (word_set origin path) (words_set origin args)
provider_set origin (maybe_alias name) = maybe_alias (word_set origin name)

abbrev pub payload_set : Option Origin → Payload → Payload
payload_set origin (number n) = number n
payload_set origin (truth b) = truth b
payload_set origin (word text) = word text
payload_set origin (command array path args) = command array (word_set origin path) (words_set origin args)
payload_set origin (provider array p) = provider array (provider_set origin p)

-- a built-in provider keeps no word, and so no definition
abbrev pub is_builtin : Payload → Bool
is_builtin (provider array (builtin name)) = true
is_builtin _ = false

abbrev pub setting_set : Option Origin → Setting → Setting
setting_set origin s = record { payload = payload_set origin s.payload; origin = if is_builtin s.payload then s.origin else origin_set origin s.origin }

-- the cell with every value in it of this origin; without an origin the cell as it is
abbrev pub cell_set : Option Origin → Cell → Cell
cell_set origin (Single s) = Single (setting_set origin s)
cell_set origin (Text ws) = Text (words_set origin ws)
cell_set origin (Items ws) = Items (words_set origin ws)
cell_set origin (Joined ss) = Joined (map (setting_set origin) ss)
cell_set origin Entry = Entry
cell_set origin Undecoded = Undecoded
cell_set origin (Marks b d) = Marks b d

-- y shows what x does, with this origin where one is given
abbrev pub IsCopied : {A : Type 0} → (A → KeyPath → Option Cell) → Option Origin → A → A → Type 0
IsCopied look origin x y = (p : KeyPath) → look y p ≡ option_map (cell_set origin) (look x p)

-- y shows what x does
abbrev pub IsSame : {A : Type 0} → (A → KeyPath → Option Cell) → A → A → Type 0
IsSame look x y = (p : KeyPath) → look y p ≡ look x p

-- a payload that keeps no word
abbrev pub IsBare : Payload → Type 0
IsBare (number n) = Unit {0}
IsBare (truth b) = Unit {0}
IsBare (word text) = Unit {0}
IsBare (command array path args) = ⊥
IsBare (provider array p) = ⊥
