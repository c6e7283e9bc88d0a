-- A text or an array of texts, as it is.
use Rattle.std.specs.Prelude.{ℕ, List, [], ◌∷◌, Option, Some, None, option_map}
use Rattle.toml.specs.Data.{Items, as_str, as_array}
use Rattle.cc2_value.specs.Cells.{KeyPath, Cell, Text, Items as ItemsCell}
use Rattle.cc2_value.specs.Shown.{leaf_at, option_at}
use Rattle.cc2_value.specs.Values.{word_of, words_of}
use Rattle.cc2_value.specs.Ways.{Way, leaf_way}
use Rattle.cc2_leaf.specs.Lists.{Listed, pieces, items, texts_in, listed_cell}
use Rattle.cc2_leaf.specs.declared.string_or_array.StringOrArray.{StringOrArray}
use Rattle.cc2_leaf.specs.declared.string_or_array.StringOrArray.TheVariants as whole

-- a text is one piece
abbrev pub whole_as : Option (List ℕ) → Option Items → Option Listed
whole_as (Some text) array = Some (pieces (text ∷ []))
whole_as None array = option_map items (texts_in array)

-- a text, which isn't split, or an array of texts
abbrev pub whole_way : Way
whole_way = leaf_way (λ d. whole_as (as_str d) (as_array d)) listed_cell

abbrev pub whole_cell : StringOrArray → Cell
whole_cell (whole.String text) = Text (word_of text ∷ [])
whole_cell (whole.Array texts) = ItemsCell (words_of texts.items)

-- the cells of a table's field
abbrev pub whole_value : Option StringOrArray → KeyPath → Option Cell
whole_value v p = option_at (leaf_at whole_cell) v p
