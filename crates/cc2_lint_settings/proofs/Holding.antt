-- Which keys hold, one after another.
use Rattle.std.proofs.Common.{◌≡◌, ◌⊎◌, inl, inr, ℕ, Bool, true, false, List, [], ◌∷◌, ◌++◌, refl, sym, ap, subst, append_assoc}
use Rattle.std.specs.Prelude.{if◌then◌else◌}
use Rattle.std.specs.Bool.{Decides}
use Rattle.std.proofs.lemmas.List.{append-nil}
use Rattle.cc2_cfg.specs.Meaning.{Atom}
use Rattle.cc2_rustc.specs.Asking.{TrueValues}
use Rattle.cc2_rustc.specs.Keys.{IsKeyRefusal, IsTrueKey}
use Rattle.cc2_error.specs.Causes.{Refusal, memory, refusal_of}
use Rattle.cc2_error.specs.Outcomes.{IsWantOfMemory}
use Rattle.cc2_error.specs.declared.error.Error.{Error}
use Rattle.cc2_lint_settings.specs.Asked.{paired}
use Rattle.cc2_lint_settings.specs.Givers.{where_true}

-- a key without a tree doesn't hold
pub bad_holds : (atoms : List Atom) (key : List ℕ) (refusal : Refusal) → IsKeyRefusal key refusal → Decides false (IsTrueKey atoms key)
bad_holds atoms key refusal bad = (λ e. absurd (cc e), λ holds. absurd (bad.0.2 holds.0 holds.1.1))

-- so it is of one that reading refuses
pub refused_holds : (atoms : List Atom) (key : List ℕ) (e : Error) → IsWantOfMemory e ⊎ IsKeyRefusal key (refusal_of e)
    → ((refusal_of e).cause ≡ memory → ⊥) → Decides false (IsTrueKey atoms key)
refused_holds atoms key e (inl wants) other = absurd (other (ap (λ r. r.cause) wants))
refused_holds atoms key e (inr bad) other = bad_holds atoms key (refusal_of e) bad

module _ (atoms : List Atom) where
  -- which of the keys that are done hold, whatever holds of those that are left
  abbrev pub AreSoFar : List (List ℕ) → List (List ℕ) → List (List ℕ) → Type 0
  AreSoFar all left held = (later : List (List ℕ)) → TrueValues atoms (paired left) later → TrueValues atoms (paired all) (held ++ later)

  behind : (is : Bool) (key : List ℕ) (held later : List (List ℕ))
      → held ++ (if is then key ∷ later else later) ≡ (held ++ where_true is key) ++ later
  behind true key held later = sym (append_assoc held (key ∷ []) later)
  behind false key held later = ap (λ xs. xs ++ later) (sym (append-nil held))

  -- one key more
  pub one_more : (all left held : List (List ℕ)) (key : List ℕ) (is : Bool) → Decides is (IsTrueKey atoms key)
      → AreSoFar all (key ∷ left) held → AreSoFar all left (held ++ where_true is key)
  one_more all left held key is decides h later rest =
      subst (TrueValues atoms (paired all)) (behind is key held later)
      (h (if is then key ∷ later else later) (is, later, decides, rest, refl))

  -- all of them
  pub at_last : (all held : List (List ℕ)) → AreSoFar all [] held → TrueValues atoms (paired all) held
  at_last all held h = subst (TrueValues atoms (paired all)) (append-nil held) (h [] refl)
