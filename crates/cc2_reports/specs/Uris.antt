-- The URI of a path. RFC 3986, 2.3.
use Rattle.std.specs.Prelude.{ℕ, Bool, true, ◌&&◌, ◌||◌, ◌==◌, ◌/◌, ◌%◌, List, [], ◌∷◌, ◌++◌, codes, flat_map, nat_le, if◌then◌else◌}
use Rattle.std.specs.Char.{is_ascii}
use Rattle.std.specs.Fmt.{digit_glyph}

abbrev pub is_between : ℕ → ℕ → ℕ → Bool
is_between low high byte = nat_le low byte && nat_le byte high

-- an ASCII letter or digit, a slash or one of `-._~`
abbrev pub is_open : ℕ → Bool
is_open b =
    is_between 97 122 b || (is_between 65 90 b || (is_between 48 57 b
    || (b == 47 || (b == 45 || (b == 46 || (b == 95 || b == 126))))))

-- a byte of ASCII that is one of these
abbrev pub is_plain : ℕ → Bool
is_plain b = is_ascii b && is_open b

-- any other byte is a percent sign and two hexadecimal digits
abbrev pub uri_byte : ℕ → List ℕ
uri_byte b =
    if is_plain b then b ∷ [] else 37 ∷ digit_glyph true (b / 16 % 16) ∷ digit_glyph true (b % 16) ∷ []

-- a path from the root is a URI of files, another one a relative reference
abbrev pub scheme_of : List ℕ → List ℕ
scheme_of [] = []
scheme_of (b ∷ bs) = if b == 47 then codes "file://" else []

abbrev pub uri_of : List ℕ → List ℕ
uri_of path = scheme_of path ++ flat_map uri_byte path
