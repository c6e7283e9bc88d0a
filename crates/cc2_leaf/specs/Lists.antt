-- Lists of texts: a text that is split at spaces, or an array of texts, and which it was.
use Rattle.std.specs.Prelude.{ℕ, Bool, true, false, List, [], ◌∷◌, ◌++◌, map, Option, Some, None, option_map, String}
use Rattle.std.specs.Global.{Vec}
use Rattle.std.specs.declared.alloc.Global.{Global}
use Rattle.toml.specs.Data.{Data, Items, no_items, item, as_str, as_array}
use Rattle.cc2_value.specs.Cells.{KeyPath, Cell, Text, Items as ItemsCell, Word, Origin}
use Rattle.cc2_value.specs.Shown.{leaf_at, option_at}
use Rattle.cc2_value.specs.Values.{words_of}
use Rattle.cc2_value.specs.Ways.{Way, leaf_way}
use Rattle.cc2_leaf.specs.Pieces.{spaced}
use Rattle.cc2_value.specs.declared.value.Value.{Value}
use Rattle.cc2_leaf.specs.declared.flags.Flags.{Flags}
use Rattle.cc2_leaf.specs.declared.listed.Texts.{Texts}
use Rattle.cc2_leaf.specs.declared.string_list.StringList.{StringList}
use Rattle.cc2_leaf.specs.declared.repr.Repr.{Repr}
use Rattle.cc2_leaf.specs.declared.repr.Repr.TheVariants as repr

-- what is read of a list: the pieces of a text, or the items of an array
pub data Listed : Type 0 where
  pieces : List (List ℕ) → Listed
  items : List (List ℕ) → Listed

abbrev pub both : Option (List ℕ) → Option (List (List ℕ)) → Option (List (List ℕ))
both (Some text) (Some texts) = Some (text ∷ texts)
both (Some text) None = None
both None texts = None

-- the texts of an array that has nothing else
abbrev pub texts_of : Items → Option (List (List ℕ))
texts_of no_items = Some []
texts_of (item d ds) = both (as_str d) (texts_of ds)

abbrev pub texts_in : Option Items → Option (List (List ℕ))
texts_in None = None
texts_in (Some ds) = texts_of ds

abbrev pub listed_as : Option (List ℕ) → Option Items → Option Listed
listed_as (Some text) array = Some (pieces (spaced text))
listed_as None array = option_map items (texts_in array)

abbrev pub listed : Data → Option Listed
listed d = listed_as (as_str d) (as_array d)

abbrev pub words_at : Option Origin → List (List ℕ) → List Word
words_at origin texts = map (λ text. record { text = text; origin = origin }) texts

abbrev pub listed_cell : Option Origin → Listed → Cell
listed_cell origin (pieces texts) = Text (words_at origin texts)
listed_cell origin (items texts) = ItemsCell (words_at origin texts)

-- a text, split at spaces, or an array of texts
abbrev pub list_way : Way
list_way = leaf_way listed listed_cell

-- words, and others after them
abbrev pub behind : List Word → Option (List Word) → Option (List Word)
behind words None = None
behind words (Some others) = Some (words ++ others)

abbrev pub is_array : Repr → Bool
is_array repr.Text = false
is_array repr.Array = true

-- the cell of words that came so
abbrev pub words_cell : Repr → List Word → Cell
words_cell repr.Text words = Text words
words_cell repr.Array words = ItemsCell words

abbrev pub texts_cell : Texts → Cell
texts_cell t = words_cell t.repr (words_of t.list.items)

-- texts that came so
abbrev pub texts_as : Repr → Vec (Value (String Global)) → Texts
texts_as r list = record { list = list; repr = r }

abbrev pub flags_at : Flags → KeyPath → Option Cell
flags_at f p = leaf_at texts_cell (texts_as f.repr f.flags) p

abbrev pub string_list_at : StringList → KeyPath → Option Cell
string_list_at l p = leaf_at texts_cell (texts_as l.repr l.list) p

-- the cells of a table's field, by the type of its value
abbrev pub flags_value : Option Flags → KeyPath → Option Cell
flags_value f p = option_at flags_at f p

abbrev pub list_value : Option StringList → KeyPath → Option Cell
list_value l p = option_at string_list_at l p
