-- The keys that ask, gathered one after the other.
use Rattle.std.proofs.Common.{ℕ, List, [], ◌∷◌, ◌++◌, refl, sym, subst, append_assoc, append-nil, Option, inl, inr}
use Rattle.std.specs.Prelude.{◌⊎◌}
use Rattle.cc2_cfg.specs.Grammar.{Tree}
use Rattle.cc2_error.specs.Causes.{Refusal, refusal_of}
use Rattle.cc2_error.specs.Outcomes.{IsWantOfMemory}
use Rattle.cc2_error.specs.declared.error.Error.{Error}
use Rattle.cc2_rustc.specs.Keys.{IsKeyTree, IsKeyRefusal}
use Rattle.cc2_rustc.specs.Asking.{asked, AreAsking, IsKeysRefusal}
use Rattle.cc2_rustc.proofs.Judging.{IsFine}

module _ {X : Type 0} where
  -- what was found before the entries that are left
  pub record IsGathered (all left : List (List ℕ × X)) (found : List (Tree × X)) : Type 0 where
    pub so_far : (later : List (Tree × X)) → AreAsking left later → AreAsking all (found ++ later)
    pub refused : (refusal : Refusal) → IsKeysRefusal left refusal → IsKeysRefusal all refusal
    pub fine : (refusal : Refusal) → IsKeysRefusal all refusal → IsKeysRefusal left refusal

  pub gathered-start : (all : List (List ℕ × X)) → IsGathered all all []
  gathered-start all = record { so_far = λ later h. h; refused = λ r h. h; fine = λ r h. h }

  not-here : (e : List ℕ × X) (left : List (List ℕ × X)) (refusal : Refusal) → IsFine e.0
      → IsKeysRefusal (e ∷ left) refusal → IsKeysRefusal left refusal
  not-here e left refusal fine (inl h) = absurd (fine refusal h)
  not-here e left refusal fine (inr h) = h

  -- with what was found at one more key
  pub gathered-more : (all left : List (List ℕ × X)) (e : List ℕ × X) (found : List (Tree × X)) (tree : Option Tree)
      → IsKeyTree e.0 tree → IsFine e.0 → IsGathered all (e ∷ left) found
      → IsGathered all left (found ++ asked tree e.1)
  gathered-more all left e found tree is fine g =
      let next = asked tree e.1 in
      record {
        so_far = λ later h.
            let here = g.so_far (next ++ later) (tree, later, is, h, refl) in
            subst (AreAsking all) (sym (append_assoc found next later)) here;
        refused = λ refusal h. g.refused refusal (inr h);
        fine = λ refusal h. not-here e left refusal fine (g.fine refusal h);
      }

  pub gathered-end : (all : List (List ℕ × X)) (found : List (Tree × X)) → IsGathered all [] found
      → AreAsking all found × ((refusal : Refusal) → ¬ (IsKeysRefusal all refusal))
  gathered-end all found g =
      (subst (AreAsking all) (append-nil found) (g.so_far [] refl), λ refusal h. g.fine refusal h)

  -- a key's refusal, or out of memory, is the table's
  pub gathered-err : (all left : List (List ℕ × X)) (e : List ℕ × X) (found : List (Tree × X)) (error : Error)
      → IsWantOfMemory error ⊎ IsKeyRefusal e.0 (refusal_of error) → IsGathered all (e ∷ left) found
      → IsWantOfMemory error ⊎ IsKeysRefusal all (refusal_of error)
  gathered-err all left e found error (inl memory) g = inl memory
  gathered-err all left e found error (inr bad) g = inr (g.refused (refusal_of error) (inl bad))
