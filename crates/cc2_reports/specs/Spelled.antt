-- What a text spells at a place.
use Rattle.std.specs.Prelude.{◌≡◌, ℕ, ◌-◌, List, length, take, drop, Option, option_map, IfSome, slice_get, String, string_bytes}
use Rattle.std.specs.declared.alloc.Global.{Global}

-- after so many bytes the text has this key
abbrev pub IsSpelledAt : List ℕ → ℕ → List ℕ → Type 0
IsSpelledAt text offset key = take (length key) (drop offset text) ≡ key

-- the last key of a path
abbrev pub last_key : List (String Global) → Option (List ℕ)
last_key path = option_map string_bytes (slice_get path (length path - 1))

-- the same of the last key of a path
abbrev pub IsLastSpelledAt : List ℕ → ℕ → List (String Global) → Type 0
IsLastSpelledAt text offset path = IfSome (last_key path) (IsSpelledAt text offset)
