-- Of two lists of entries with the same keys, and with values that show the same, the same keys ask, are refused and are true.
use Rattle.std.proofs.Common.{◌≡◌, ℕ, List, [], ◌∷◌, map, Bool, true, false, refl, ap, subst, ◌∙◌, if◌then◌else◌, inl, inr}
use Rattle.std.specs.Bool.{Decides}
use Rattle.cc2_cfg.specs.Meaning.{Atom}
use Rattle.cc2_error.specs.Causes.{Refusal}
use Rattle.cc2_rustc.specs.Asking.{IsKeysRefusal, SomeKeyAsks, TrueValues}
use Rattle.cc2_rustc.specs.Keys.{AsksBy, IsKeyRefusal, IsTrueKey}

module _ {X Z : Type 0} (f : X → Z) where
  abbrev pub shown_entries : List (List ℕ × X) → List (List ℕ × Z)
  shown_entries es = map {B = List ℕ × Z} (λ e. (e.0, f e.1)) es

  module _ (e d : List ℕ × X) (es ds : List (List ℕ × X)) (same : shown_entries (e ∷ es) ≡ shown_entries (d ∷ ds)) where
    abbrev first : List (List ℕ × Z) → List ℕ × Z
    first [] = (e.0, f e.1)
    first (x ∷ xs) = x

    abbrev rest : List (List ℕ × Z) → List (List ℕ × Z)
    rest [] = []
    rest (x ∷ xs) = xs

    same_key : e.0 ≡ d.0
    same_key = ap (λ xs. (first xs).0) same

    same_value : f e.1 ≡ f d.1
    same_value = ap (λ xs. (first xs).1) same

    same_rest : shown_entries es ≡ shown_entries ds
    same_rest = ap rest same

  pub some_asks : (es ds : List (List ℕ × X)) → shown_entries es ≡ shown_entries ds → SomeKeyAsks es → SomeKeyAsks ds
  some_asks [] ds same asks = absurd asks
  some_asks (e ∷ es) [] same asks = cc
  some_asks (e ∷ es) (d ∷ ds) same (inl (tree, by)) = inl (tree, subst (λ key. AsksBy key tree) (same_key e d es ds same) by)
  some_asks (e ∷ es) (d ∷ ds) same (inr later) = inr (some_asks es ds (same_rest e d es ds same) later)

  pub some_refused : (es ds : List (List ℕ × X)) (refusal : Refusal) → shown_entries es ≡ shown_entries ds → IsKeysRefusal es refusal
      → IsKeysRefusal ds refusal
  some_refused [] ds refusal same is = absurd is
  some_refused (e ∷ es) [] refusal same is = cc
  some_refused (e ∷ es) (d ∷ ds) refusal same (inl is) = inl (subst (λ key. IsKeyRefusal key refusal) (same_key e d es ds same) is)
  some_refused (e ∷ es) (d ∷ ds) refusal same (inr later) = inr (some_refused es ds refusal (same_rest e d es ds same) later)

  chosen_same : (holds : Bool) (e d : List ℕ × X) (xs ys : List X) → f e.1 ≡ f d.1 → map f xs ≡ map f ys
      → map f (if holds then e.1 ∷ xs else xs) ≡ map f (if holds then d.1 ∷ ys else ys)
  chosen_same true e d xs ys one others = λ i. one i ∷ others i
  chosen_same false e d xs ys one others = others

  -- the values at the true keys show the same
  pub true_same : (atoms : List Atom) (es ds : List (List ℕ × X)) → shown_entries es ≡ shown_entries ds → (xs : List X) → TrueValues atoms es xs
      → (ys : List X) × TrueValues atoms ds ys × (map f xs ≡ map f ys)
  true_same atoms [] [] same xs none = ([], refl, ap (map f) none)
  true_same atoms [] (d ∷ ds) same xs none = cc
  true_same atoms (e ∷ es) [] same xs values = cc
  true_same atoms (e ∷ es) (d ∷ ds) same xs (holds, left, decides, values, is) =
      let (ys, others, shows) = true_same atoms es ds (same_rest e d es ds same) left values in (
        if holds then d.1 ∷ ys else ys,
        (holds, ys, subst (λ key. Decides holds (IsTrueKey atoms key)) (same_key e d es ds same) decides, others, refl),
        ap (map f) is ∙ chosen_same holds e d left ys (same_value e d es ds same) shows,
      )
