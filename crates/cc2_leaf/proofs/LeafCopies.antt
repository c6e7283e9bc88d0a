-- Copies of leaf values.
use Rattle.std.proofs.Common.{◌≡◌, ℕ, List, [], Option, Some, None, String, Global, string_bytes, ap}
use Rattle.cc2_value.specs.Cells.{Origin, Word, Payload, word, Cell, Single}
use Rattle.cc2_value.specs.Copies.{word_set, IsCopied}
use Rattle.cc2_value.specs.Shown.{single_at}
use Rattle.cc2_value.specs.Values.{word_of, setting_of}
use Rattle.cc2_value.specs.declared.value.Value.{Value}

abbrev text_in : Payload → List ℕ
text_in (word text) = text
text_in _ = []

-- the word that a cell of one text shows
abbrev word_in : Option Cell → Word
word_in (Some (Single s)) = record { text = text_in s.payload; origin = s.origin }
word_in _ = record { text = []; origin = None }

-- from the copy of a text's cell to that of its word
pub word_copied : (origin : Option Origin) (v w : Value (String Global)) → IsCopied (single_at (setting_of (λ s. word (string_bytes s)))) origin v w → word_of w ≡ word_set origin (word_of v)
word_copied origin v w h = ap word_in (h [])
