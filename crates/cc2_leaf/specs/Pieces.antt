-- The pieces of a text that is split at spaces.
use Rattle.std.specs.Prelude.{ℕ, ◌≡◌, ◌+◌, ◌<◌, Bool, true, false, List, [], ◌∷◌, map, filter, eqb, length, Option, Some, None}
use Rattle.std.specs.List.{slice_split}
use Rattle.std.specs.Str.{trim}
use Rattle.std.specs.Borrow.{Bor}

abbrev pub is_space : ℕ → Bool
is_space b = eqb b 32

abbrev pub has_bytes : List ℕ → Bool
has_bytes [] = false
has_bytes (b ∷ bs) = true

-- the pieces between U+0020, each without white space round it, and without the empty ones
abbrev pub spaced : List ℕ → List (List ℕ)
spaced text = filter has_bytes (map trim (slice_split is_space text))

-- the pieces of what is left of a text, as they are; none where nothing is left
abbrev pub cut_left : Option (Bor (List ℕ)) → List (List ℕ)
cut_left None = []
cut_left (Some rest) = slice_split is_space rest.now

-- the same, trimmed, and without the empty ones
abbrev pub spaced_left : Option (Bor (List ℕ)) → List (List ℕ)
spaced_left rest = filter has_bytes (map trim (cut_left rest))

-- more than the length of what is left
abbrev pub room_left : Option (Bor (List ℕ)) → ℕ
room_left None = 0
room_left (Some rest) = length rest.now + 1

-- the front up to a space, and what is left after it
abbrev pub IsCutAtSpace : List ℕ → Bor (List ℕ) × Option (Bor (List ℕ)) → Type 0
IsCutAtSpace text cut = (slice_split is_space text ≡ cut.0.now ∷ cut_left cut.1) × (room_left cut.1 < length text + 1)

-- U+001F, the unit separator
abbrev pub is_unit : ℕ → Bool
is_unit b = eqb b 31

-- the pieces between U+001F, empty ones too; none of the empty text
abbrev pub encoded : List ℕ → List (List ℕ)
encoded [] = []
encoded (b ∷ bs) = slice_split is_unit (b ∷ bs)

-- the pieces of what is left of a text; none where nothing is left
abbrev pub encoded_left : Option (Bor (List ℕ)) → List (List ℕ)
encoded_left None = []
encoded_left (Some rest) = slice_split is_unit rest.now
