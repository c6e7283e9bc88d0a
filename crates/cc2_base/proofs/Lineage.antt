-- The ancestors of a path, one at a time.
use Rattle.std.proofs.Common.{◌≡◌, ℕ, zero, suc, ◌+◌, ◌≤◌, List, ◌∷◌, length, refl, sym, ap, ◌∙◌, arith, length-take, take_all, Option, Some, None}
use Rattle.std.specs.Path.{path_parent, path_components}
use Rattle.std.specs.Path.Iter.{max_ancestors}
use Rattle.std.proofs.lemmas.List.{length_push}
use Rattle.std.proofs.lemmas.Paths.{path_components_parent, take_parent}
use Rattle.cc2_base.specs.Paths.{parent_of, ancestors_within, ancestors_of}
use Rattle.cc2_base.specs.PathSteps.{ancestors_from}
use Rattle.cc2_base.proofs.Parents.{path_parent_is}

-- the parent is a shorter path
parent_shorter : (p : List ℕ) → max_ancestors (parent_of p) ≤ length p
parent_shorter p = by (path_parent p) refl (sym (path_parent_is p))
  where
    by : (o : Option (List ℕ)) → path_parent p ≡ o → parent_of p ≡ path_parent p → max_ancestors (parent_of p) ≤ length p
    by None e is = omega (arith, ap max_ancestors (is ∙ e))
    by (Some d) e is =
        let front = take_parent p d e in
        let parts = path_components_parent p d e in
        let one_more = ap length parts.1 ∙ length_push (path_components d) parts.0 in
        let within : length d ≤ length p = omega (arith, ap length front, length-take (length d) p) in
        let longer : length d ≡ length p → ⊥ = λ same. omega (arith, one_more, ap (λ q. length (path_components q)) (sym front ∙ take_all (length d) p (omega arith))) in
        omega (arith, longer, ap max_ancestors (is ∙ e))

within_enough : (n m : ℕ) (p : Option (List ℕ)) → max_ancestors p ≤ n → max_ancestors p ≤ m → ancestors_within n p ≡ ancestors_within m p
within_enough zero zero p h k = refl
within_enough zero (suc m) None h k = refl
within_enough (suc n) zero None h k = refl
within_enough (suc n) (suc m) None h k = refl
within_enough zero (suc m) (Some p) h k = absurd (omega arith)
within_enough (suc n) zero (Some p) h k = absurd (omega arith)
within_enough (suc n) (suc m) (Some p) h k =
    let less = parent_shorter p in
    ap (λ l. p ∷ l) (within_enough n m (parent_of p) (omega arith) (omega arith))

from_within : (n : ℕ) (p : Option (List ℕ)) → max_ancestors p ≤ n → ancestors_within n p ≡ ancestors_from p
unfolding ancestors_of
from_within n None h = within_enough n zero None h (omega arith)
from_within n (Some p) h = within_enough n (length p + 1) (Some p) h (omega arith)

-- the ancestors are the path, and then those of its parent
pub ancestors_step : (p : List ℕ) → ancestors_of p ≡ p ∷ ancestors_from (parent_of p)
unfolding ancestors_of
ancestors_step p =
    ap (λ n. ancestors_within n (Some p)) {x = length p + 1} {y = suc (length p)} (omega arith)
    ∙ ap (λ l. p ∷ l) (from_within (length p) (parent_of p) (parent_shorter p))
