-- The shortest front of a text that passes a test.
use Rattle.std.proofs.Common.{◌≡◌, ℕ, zero, suc, ◌≤◌, ◌<◌, List, [], ◌∷◌, length, take, cond, Bool, true, false, refl, ap, ◌∙◌, arith, Some, None, option_map, map}
use Rattle.std.specs.List.{find}
use Rattle.cc2_base.specs.Paths.{fronts}

find-map : (test : List ℕ → Bool) (b : ℕ) (xs : List (List ℕ)) → find test (map (λ front. b ∷ front) xs) ≡ option_map (λ front. b ∷ front) (find (λ front. test (b ∷ front)) xs)
find-map test b [] = refl
find-map test b (x ∷ xs) = by (test (b ∷ x)) (find-map test b xs)
  where
    by : (t : Bool) → find test (map (λ front. b ∷ front) xs) ≡ option_map (λ front. b ∷ front) (find (λ front. test (b ∷ front)) xs)
        → cond t (Some (b ∷ x)) (find test (map (λ front. b ∷ front) xs)) ≡ option_map (λ front. b ∷ front) (cond t (Some x) (find (λ front. test (b ∷ front)) xs))
    by true e = refl
    by false e = e

pub find_front : (test : List ℕ → Bool) (p : List ℕ) (k : ℕ) → k ≤ length p → test (take k p) ≡ true → ((m : ℕ) → m < k → test (take m p) ≡ false) → find test (fronts p) ≡ Some (take k p)
find_front test [] zero l here before = ap (λ t. cond t (Some []) None) here
find_front test [] (suc k) l here before = absurd (omega arith)
find_front test (b ∷ p) zero l here before = ap (λ t. cond t (Some []) (find test (map (λ front. b ∷ front) (fronts p)))) here
find_front test (b ∷ p) (suc k) l here before =
    ap (λ t. cond t (Some []) (find test (map (λ front. b ∷ front) (fronts p)))) (before 0 (omega arith))
    ∙ find-map test b (fronts p)
    ∙ ap (option_map (λ front. b ∷ front)) (find_front (λ front. test (b ∷ front)) p k (omega arith) here (λ m s. before (suc m) (omega arith)))
