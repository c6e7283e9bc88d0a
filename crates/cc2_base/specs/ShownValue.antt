-- What is shown of a variable that is not text: its bytes, but nothing of a token.
use Rattle.std.specs.Prelude.{ℕ, ◌+◌, ◌/◌, ◌%◌, ◌==◌, nat_le, nat_lt, nat_eq, Bool, ◌&&◌, ◌||◌, if◌then◌else◌, List, [], ◌∷◌, ◌++◌, length, drop, bytes_eq, codes, flat_map}
use Rattle.std.specs.List.{starts_with, ends_with}

-- what comes before and after a registry's name in the name of its token
abbrev pub registries_prefix : List ℕ
registries_prefix = codes "CARGO_REGISTRIES_"

-- the variable holds a token: the registry's, or that of a registry of some name
unfoldable pub is_token_name : List ℕ → Bool
is_token_name name = if starts_with nat_eq name registries_prefix then ends_with nat_eq (drop (length registries_prefix) name) (codes "_TOKEN") else bytes_eq name (codes "CARGO_REGISTRY_TOKEN")

-- a digit below 16, in upper case
abbrev pub hex_digit_of : ℕ → ℕ
hex_digit_of d = if nat_lt d 10 then 48 + d else 55 + d

-- `"` and `\` after a `\`, the others from space to `~` as themselves, every other byte by its number
abbrev pub shown_byte : ℕ → List ℕ
shown_byte b =
    if (b == 34 || b == 92) then 92 ∷ (b ∷ [])
    else (if (nat_le 32 b && nat_le b 126) then b ∷ [] else 92 ∷ (120 ∷ (hex_digit_of (b / 16) ∷ (hex_digit_of (b % 16) ∷ []))))

-- the bytes between two `"`, or that they are not shown
unfoldable pub shown_of : List ℕ → List ℕ → List ℕ
shown_of name bytes = if is_token_name name then codes "[REDACTED]" else 34 ∷ (flat_map shown_byte bytes ++ 34 ∷ [])
