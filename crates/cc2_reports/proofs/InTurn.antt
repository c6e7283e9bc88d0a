-- What each of a list gives, one after another: with what those that are left give, it is what all give.
use Rattle.std.proofs.Common.{◌≡◌, List, [], ◌∷◌, ◌++◌, refl, sym, subst, append_assoc}
use Rattle.std.proofs.lemmas.List.{append-nil}
use Rattle.cc2_reports.specs.Each.{AreOfEach}

module _ {A B : Type 0} (Gives : A → List B → Type 0) (whole : List A) where
  -- with what those that are left give, these are what all give
  abbrev pub IsSoFar : List A → List B → Type 0
  IsSoFar left all = (rest : List B) → AreOfEach Gives left rest → AreOfEach Gives whole (all ++ rest)

  pub each_start : (all : List B) → all ≡ [] → IsSoFar whole all
  each_start all none rest h = subst (λ (bs : List B). AreOfEach Gives whole (bs ++ rest)) (sym none) h

  pub each_on : (before after : List A) (a : A) (all own more : List B) → before ≡ a ∷ after → more ≡ all ++ own
      → Gives a own → IsSoFar before all → IsSoFar after more
  each_on before after a all own more split appended gives so_far rest h =
      subst (λ (bs : List B). AreOfEach Gives whole (bs ++ rest)) (sym appended)
      (subst (λ (bs : List B). AreOfEach Gives whole bs) (sym (append_assoc all own rest))
      (so_far (own ++ rest) (subst (λ (left : List A). AreOfEach Gives left (own ++ rest)) (sym split) (own, rest, refl, gives, h))))

  -- the same, by what is given
  pub each_next : (before after : List A) (a : A) (all own more : List B) → Gives a own → before ≡ a ∷ after → more ≡ all ++ own
      → IsSoFar before all → IsSoFar after more
  each_next before after a all own more gives split appended so_far = each_on before after a all own more split appended gives so_far

  pub each_end : (left : List A) (all : List B) → left ≡ [] → IsSoFar left all → AreOfEach Gives whole all
  each_end left all none so_far =
      subst (λ (bs : List B). AreOfEach Gives whole bs) (append-nil all)
      (so_far [] (subst (λ (none_left : List A). AreOfEach Gives none_left []) (sym none) refl))
