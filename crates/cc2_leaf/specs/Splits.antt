-- What one step over the pieces of a text gives.
use Rattle.std.specs.Prelude.{◌≡◌, ℕ, List, [], ◌∷◌, Option, Some, None}
use Rattle.std.specs.Borrow.{Bor}
use Rattle.cc2_leaf.specs.Pieces.{spaced_left, encoded_left}
use Rattle.cc2_leaf.specs.declared.split.SplitSpaces.{SplitSpaces}
use Rattle.cc2_leaf.specs.declared.split_encoded.SplitEncoded.{SplitEncoded}

-- the first of the pieces that are left, or none where none is left
abbrev pub GivesPiece : SplitSpaces → Option (Bor (List ℕ)) → SplitSpaces → Type 0
GivesPiece s None t = (spaced_left s.rest ≡ []) × (spaced_left t.rest ≡ [])
GivesPiece s (Some piece) t = spaced_left s.rest ≡ piece.now ∷ spaced_left t.rest

abbrev pub GivesEncoded : SplitEncoded → Option (Bor (List ℕ)) → SplitEncoded → Type 0
GivesEncoded s None t = (encoded_left s.rest ≡ []) × (encoded_left t.rest ≡ [])
GivesEncoded s (Some piece) t = encoded_left s.rest ≡ piece.now ∷ encoded_left t.rest
