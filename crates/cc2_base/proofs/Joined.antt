-- Texts in a row, with a separator between each two.
use Rattle.std.proofs.Common.{◌≡◌, ℕ, List, [], ◌∷◌, ◌++◌, map, refl, ap}
use Rattle.std.specs.Prelude.{flat_map}
use Rattle.std.specs.List.{join_by}

behind_each : {X : Type 0} (f : X → List ℕ) (sep : List ℕ) (xs : List X)
    → flat_map (λ x. sep ++ f x) xs ≡ flat_map (λ name. sep ++ name) (map f xs)
behind_each f sep [] = refl
behind_each f sep (x ∷ xs) = ap (λ rest. (sep ++ f x) ++ rest) (behind_each f sep xs)

pub joined_map : {X : Type 0} (f : X → List ℕ) (sep : List ℕ) (xs : List X) → join_by f sep xs ≡ join_by (λ name. name) sep (map f xs)
joined_map f sep [] = refl
joined_map f sep (x ∷ xs) = ap (λ rest. f x ++ rest) (behind_each f sep xs)
