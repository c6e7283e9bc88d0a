-- The words of a text: what is between its white space.
use Rattle.std.specs.Prelude.{ℕ, List, [], ◌∷◌, ◌++◌, map, Option, if◌then◌else◌}
use Rattle.std.specs.Char.{is_whitespace}
use Rattle.std.specs.Str.{chars, encode_utf8_all}
use Rattle.cc2_value.specs.Cells.{Origin, Word}

-- the characters of a word, where there are any
abbrev pub word_of_chars : List ℕ → List (List ℕ)
word_of_chars [] = []
word_of_chars (c ∷ w) = encode_utf8_all (c ∷ w) ∷ []

-- the words of these characters, the first of which goes on with those of w
abbrev pub words_from : List ℕ → List ℕ → List (List ℕ)
words_from w [] = word_of_chars w
words_from w (c ∷ cs) = if is_whitespace c then word_of_chars w ++ words_from [] cs else words_from (w ++ c ∷ []) cs

-- the words of a text, with Unicode's white space between them
abbrev pub white_words : List ℕ → List (List ℕ)
white_words text = words_from [] (chars text)

-- words that are set at one place
abbrev pub words_set : Option Origin → List (List ℕ) → List Word
words_set origin texts = map (λ text. record { text = text; origin = origin }) texts

-- the words of a text, each set at one place
abbrev pub words_of_setting : Option Origin → List ℕ → List Word
words_of_setting origin text = words_set origin (white_words text)
