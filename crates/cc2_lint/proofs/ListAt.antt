-- The list of a number, by the lists of the code.
use Rattle.std.proofs.Common.{◌≡◌, ℕ, zero, suc, List, [], ◌∷◌, map, Vec, Global, refl}
use Rattle.cc2_lint.specs.Files.{items_at, nth_list}

module _ {A B : Type 0} (view : A → B) where
  pub viewed_at : (all : List (Vec A Global)) (n : ℕ) → nth_list (map (λ v. map view v.items) all) n ≡ map view (items_at all n)
  viewed_at [] n = refl
  viewed_at (v ∷ vs) zero = refl
  viewed_at (v ∷ vs) (suc n) = viewed_at vs n
