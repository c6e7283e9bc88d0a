-- What a cell of merged settings is as words, or as a text.
use Rattle.std.specs.Prelude.{ℕ, List, [], ◌∷◌, ◌++◌, map, Option, Some, None, option_map, Result, Ok, Err, String, Vec, string_bytes}
use Rattle.std.specs.declared.alloc.Global.{Global}
use Rattle.toml.specs.Data.{Data, string}
use Rattle.cc2_error.specs.Causes.{Refusal, plain, wrong_type}
use Rattle.cc2_value.specs.Cells.{Origin, Word}
use Rattle.cc2_cargo.specs.Raw.{Path, RawCell, RawValue, single, array, table}
use Rattle.cc2_cargo_settings.specs.Found.{Lookup, nowhere, at, blocked}
use Rattle.cc2_cargo_settings.specs.Words.{words_of_setting}

abbrev pub text_word : Data → Option Origin → Option Word
text_word (string t) origin = Some (record { text = t; origin = origin })
text_word d origin = None

-- the first, where there is one, and the others, where there are some
abbrev pub with_word : Option Word → Option (List Word) → Option (List Word)
with_word None others = None
with_word (Some w) None = None
with_word (Some w) (Some ws) = Some (w ∷ ws)

-- words, and others after them
abbrev pub words_then : List Word → Option (List Word) → Option (List Word)
words_then words None = None
words_then words (Some others) = Some (words ++ others)

-- the items of an array, where all are texts
abbrev pub array_words : List RawValue → Option (List Word)
array_words [] = Some []
array_words (s ∷ ss) = with_word (text_word s.value s.origin) (array_words ss)

abbrev pub words_of_text : Data → Option Origin → Option (List Word)
words_of_text (string t) origin = Some (words_of_setting origin t)
words_of_text d origin = None

-- the words of a text, or the texts of an array
abbrev pub words_of_cell : RawCell → Option (List Word)
words_of_cell (single s) = words_of_text s.value s.origin
words_of_cell (array from ss) = array_words ss
words_of_cell table = None

abbrev pub text_of_cell : RawCell → Option Word
text_of_cell (single s) = text_word s.value s.origin
text_of_cell (array from ss) = None
text_of_cell table = None

-- a value, or that something of another type is at the path
abbrev pub typed : {A : Type 0} → Path → Option A → Result (Option A) Refusal
typed path (Some a) = Ok (Some a)
typed path None = Err (plain (wrong_type path))

-- what a path is read as; none where nothing is there
abbrev pub read_as : {A : Type 0} → (RawCell → Option A) → Path → Lookup → Result (Option A) Refusal
read_as read path nowhere = Ok None
read_as read path (at c) = typed path (read c)
read_as read path blocked = Err (plain (wrong_type path))

abbrev pub texts_view : Vec (String Global) Global → List (List ℕ)
texts_view texts = map string_bytes texts.items

-- a text, and others after it, where there are some
abbrev pub and_texts : Data → Option (List (List ℕ)) → Option (List (List ℕ))
and_texts (string t) others = option_map (λ ts. t ∷ ts) others
and_texts d others = None

-- the texts of these values, where each is one
abbrev pub plain_texts : List RawValue → Option (List (List ℕ))
plain_texts [] = Some []
plain_texts (s ∷ ss) = and_texts s.value (plain_texts ss)

-- those of an array; no texts where nothing is
abbrev pub plain_texts_at : Lookup → Option (List (List ℕ))
plain_texts_at nowhere = Some []
plain_texts_at (at (array from ss)) = plain_texts ss
plain_texts_at place = None
