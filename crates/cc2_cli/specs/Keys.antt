-- How a key is written whose value alone is shown.
use Rattle.std.specs.Prelude.{◌≡◌, ◌≢◌, ◌<◌, ◌+◌, ℕ, List, [], ◌∷◌, ◌++◌, get_or, length, Option, Some, None}

-- the byte isn't in the text
abbrev pub Lacks : ℕ → List ℕ → Type 0
Lacks byte text = (i : ℕ) → i < length text → get_or text i 0 ≢ byte

-- a piece that may be as it is: not empty, and without dots and quotes
pub record IsPlain (piece : List ℕ) : Type 0 where
  pub some : piece ≢ []
  pub no_dot : Lacks 46 piece
  pub no_single : Lacks 39 piece
  pub no_double : Lacks 34 piece

-- how a piece may be written: as it is, or between quotes that it doesn't have
pub data IsWritten (piece text : List ℕ) : Type 0 where
  plain : IsPlain piece → text ≡ piece → IsWritten piece text
  single : Lacks 39 piece → text ≡ 39 ∷ (piece ++ 39 ∷ []) → IsWritten piece text
  double : Lacks 34 piece → Lacks 92 piece → text ≡ 34 ∷ (piece ++ 34 ∷ []) → IsWritten piece text

-- the text is that of the pieces, with a dot between each two
abbrev pub IsKey : List ℕ → List (List ℕ) → Type 0
IsKey text [] = ⊥
IsKey text (piece ∷ []) = IsWritten piece text
IsKey text (piece ∷ (next ∷ pieces)) =
    (front : List ℕ) × (rest : List ℕ) × (text ≡ front ++ 46 ∷ rest) × IsWritten piece front × IsKey rest (next ∷ pieces)

-- what is left after the dot after a piece is that of the pieces that follow; where nothing is left, none follow
abbrev pub IsLeft : Option (List ℕ) → List (List ℕ) → Type 0
IsLeft None pieces = pieces ≡ []
IsLeft (Some rest) pieces = IsKey rest pieces

-- the end of a text with this left after a dot
abbrev pub end_of : Option (List ℕ) → List ℕ
end_of None = []
end_of (Some rest) = 46 ∷ rest

-- the text is no such end
abbrev pub IsNoEnd : List ℕ → Type 0
IsNoEnd text = (left : Option (List ℕ)) → text ≢ end_of left

abbrev pub room_left : Option (List ℕ) → ℕ
room_left None = 0
room_left (Some rest) = length rest + 1

-- the text is a key just where what is left is one, with the piece in front
pub record IsCut (text piece : List ℕ) (left : Option (List ℕ)) : Type 0 where
  pub reads : (pieces : List (List ℕ)) → IsLeft left pieces → IsKey text (piece ∷ pieces)
  pub alone : (pieces : List (List ℕ)) → IsKey text pieces → (others : List (List ℕ)) × (pieces ≡ piece ∷ others) × IsLeft left others
  pub shorter : room_left left < length text + 1

-- the text is no key
abbrev pub IsNoKey : List ℕ → Type 0
IsNoKey text = (pieces : List (List ℕ)) → ¬ (IsKey text pieces)
