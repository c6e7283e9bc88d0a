-- What a program wrote, without the ends of lines after it.
use Rattle.std.specs.Prelude.{ℕ, ◌==◌, ◌||◌, Bool, false, if◌then◌else◌, List, [], ◌∷◌, reverse}

abbrev pub is_line_end : ℕ → Bool
is_line_end byte = byte == 10 || byte == 13

-- from the first byte on that ends no line
abbrev pub from_text : List ℕ → List ℕ
from_text [] = []
from_text (byte ∷ bytes) = if is_line_end byte then from_text bytes else byte ∷ bytes

-- the same seen from the end
abbrev pub without_line_ends : List ℕ → List ℕ
without_line_ends bytes = reverse (from_text (reverse bytes))

abbrev pub begins_with_end : List ℕ → Bool
begins_with_end [] = false
begins_with_end (byte ∷ bytes) = is_line_end byte

abbrev pub ends_line : List ℕ → Bool
ends_line bytes = begins_with_end (reverse bytes)
