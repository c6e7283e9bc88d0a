-- Bytes that are read as a value, and how values one after the other are read.
use Rattle.std.specs.Prelude.{◌≡◌, ℕ, zero, suc, List, [], ◌∷◌, ◌++◌, length, Option, Some, None, option_map, option_and_then}
use Rattle.cc2_ask.specs.Fields.{Front}
pub use Rattle.cc2_ask.specs.Fields.{many_at, listed_at}

-- a byte
abbrev pub byte_at : List ℕ → Front ℕ
byte_at [] = None
byte_at (b ∷ rest) = Some (b, rest)

module _ {A : Type 0} where
  -- these bytes, with any others after them, are read as this value, and the others are left
  abbrev pub IsReadAs : (List ℕ → Front A) → List ℕ → A → Type 0
  IsReadAs at bytes a = (rest : List ℕ) → at (bytes ++ rest) ≡ Some (a, rest)

  -- what was appended is read as this value
  abbrev pub IsAppended : (List ℕ → Front A) → A → List ℕ → List ℕ → Type 0
  IsAppended at a was now = (bytes : List ℕ) × (now ≡ was ++ bytes) × IsReadAs at bytes a

  -- each of some values has bytes of its own
  abbrev pub AreReadAs : (List ℕ → Front A) → List A → List ℕ → Type 0
  AreReadAs at [] bytes = bytes ≡ []
  AreReadAs at (a ∷ all) bytes =
      (own : List ℕ) × (others : List ℕ) × (bytes ≡ own ++ others) × IsReadAs at own a × AreReadAs at all others

  -- what was appended is read as these values
  abbrev pub AreAppended : (List ℕ → Front A) → List A → List ℕ → List ℕ → Type 0
  AreAppended at all was now = (bytes : List ℕ) × (now ≡ was ++ bytes) × AreReadAs at all bytes

  -- at most so many values, and nothing after them
  abbrev pub all_within : (List ℕ → Front A) → ℕ → List ℕ → Option (List A)
  all_within at n [] = Some []
  all_within at zero (b ∷ bytes) = None
  all_within at (suc n) (b ∷ bytes) =
      option_and_then (λ a. option_map (λ others. a.0 ∷ others) (all_within at n a.1)) (at (b ∷ bytes))

  -- values, and nothing after them; none takes less than a byte
  abbrev pub all_at : (List ℕ → Front A) → List ℕ → Option (List A)
  all_at at bytes = all_within at (length bytes) bytes

  module _ {B : Type 0} where
    -- two values, one after the other
    abbrev pub both_at : (List ℕ → Front A) → (List ℕ → Front B) → List ℕ → Front (A × B)
    both_at first second bytes = option_and_then (λ a. option_map (λ b. ((a.0, b.0), b.1)) (second a.1)) (first bytes)

    -- what is made of a value
    abbrev pub made_at : (A → B) → (List ℕ → Front A) → List ℕ → Front B
    made_at make at bytes = option_map (λ a. (make a.0, a.1)) (at bytes)

    -- what is made of a value, if anything is
    abbrev pub judged_at : (A → Option B) → (List ℕ → Front A) → List ℕ → Front B
    judged_at make at bytes = option_and_then (λ a. option_map (λ b. (b, a.1)) (make a.0)) (at bytes)
