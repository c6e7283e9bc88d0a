-- Fields: four bytes that encode a length, the lowest first, and so many bytes.
use Rattle.std.specs.Prelude.{ℕ, zero, suc, ◌<◌, ◌^◌, nat_le, if◌then◌else◌, List, [], ◌∷◌, ◌++◌, length, take, drop}
use Rattle.std.specs.Prelude.{Option, Some, None, option_map, option_and_then}
use Rattle.std.specs.List.{AllByRecursion}
use Rattle.std.specs.Int.{from_le_bytes, to_le_bytes, w32}
use Rattle.std.specs.Str.{is_utf8}

-- what is at the front of bytes, and the bytes after it; none where it isn't there
abbrev pub Front : Type 0 → Type 0
Front A = Option (A × List ℕ)

-- a number in four bytes
abbrev pub number_at : List ℕ → Front ℕ
number_at (a ∷ (b ∷ (c ∷ (d ∷ rest)))) = Some (from_le_bytes w32 (a ∷ b ∷ c ∷ d ∷ []), rest)
number_at _ = None

-- so many bytes
abbrev pub bytes_at : ℕ → List ℕ → Front (List ℕ)
bytes_at n bytes = if nat_le n (length bytes) then Some (take n bytes, drop n bytes) else None

-- a field
abbrev pub field_at : List ℕ → Front (List ℕ)
field_at bytes = option_and_then (λ n. bytes_at n.0 n.1) (number_at bytes)

abbrev pub where_text : List ℕ × List ℕ → Front (List ℕ)
where_text front = if is_utf8 front.0 then Some front else None

-- a field that is UTF-8
abbrev pub text_at : List ℕ → Front (List ℕ)
text_at bytes = option_and_then where_text (field_at bytes)

module _ {A : Type 0} where
  -- so many values
  abbrev pub many_at : (List ℕ → Front A) → ℕ → List ℕ → Front (List A)
  many_at at zero bytes = Some ([], bytes)
  many_at at (suc n) bytes =
      option_and_then (λ a. option_map (λ others. (a.0 ∷ others.0, others.1)) (many_at at n a.1)) (at bytes)

  -- a number, and so many values
  abbrev pub listed_at : (List ℕ → Front A) → List ℕ → Front (List A)
  listed_at at bytes = option_and_then (λ n. many_at at n.0 n.1) (number_at bytes)

-- so many fields that are UTF-8
abbrev pub texts_at : ℕ → List ℕ → Front (List (List ℕ))
texts_at n bytes = many_at text_at n bytes

-- a list of texts: a number, and so many fields
abbrev pub list_at : List ℕ → Front (List (List ℕ))
list_at bytes = listed_at text_at bytes

-- the four bytes that encode a number
abbrev pub number_bytes : ℕ → List ℕ
number_bytes n = to_le_bytes w32 n

-- the bytes of a field
abbrev pub field_bytes : List ℕ → List ℕ
field_bytes bytes = number_bytes (length bytes) ++ bytes

-- the bytes of fields, one after the other
abbrev pub fields_bytes : List (List ℕ) → List ℕ
fields_bytes [] = []
fields_bytes (field ∷ fields) = field_bytes field ++ fields_bytes fields

-- the bytes of a list
abbrev pub list_bytes : List (List ℕ) → List ℕ
list_bytes fields = number_bytes (length fields) ++ fields_bytes fields

-- the number fits four bytes
abbrev pub IsSmall : ℕ → Type 0
IsSmall n = n < 2 ^ 32

-- the length of each field fits four bytes
abbrev pub AreShort : List (List ℕ) → Type 0
AreShort fields = AllByRecursion (λ field. IsSmall (length field)) fields

-- so does that of the list
abbrev pub IsShortList : List (List ℕ) → Type 0
IsShortList fields = IsSmall (length fields) × AreShort fields
