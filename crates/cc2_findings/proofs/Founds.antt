-- What is found for some of a list, one after another.
use Rattle.std.proofs.Common.{List, [], ◌∷◌, ◌++◌, Option, Some, None, refl, sym, ap, subst, inl, inr}
use Rattle.cc2_findings.specs.Founds.{AreFound, where_found}

module _ {A B : Type 0} (Is : A → Option B → Type 0) where
  alone : (a : A) (o : Option B) → Is a o → AreFound Is (a ∷ []) (where_found a o)
  alone a None is = inl (is, refl)
  alone a (Some b) is = inr (b, [], refl, is, refl)

  -- one of them more
  pub one_more : (done : List A) (found : List (A × B)) (a : A) (o : Option B) → AreFound Is done found → Is a o
      → AreFound Is (done ++ a ∷ []) (found ++ where_found a o)
  one_more [] found a o are is = subst (λ (f : List (A × B)). AreFound Is (a ∷ []) (f ++ where_found a o)) (sym are) (alone a o is)
  one_more (x ∷ done) found a o (inl h) is = inl (h.0, one_more done found a o h.1 is)
  one_more (x ∷ done) found a o (inr h) is =
      inr (h.0, h.1 ++ where_found a o, ap (λ (f : List (A × B)). f ++ where_found a o) h.2, h.3, one_more done h.1 a o h.4 is)
