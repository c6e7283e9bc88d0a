-- What is wrong with the text of a variable, and what is read of it.
use Rattle.std.proofs.Common.{◌≡◌, ℕ, zero, suc, false, List, [], ◌∷◌, ◌++◌, map, Option, None, Result, Ok, Err, arith, refl, sym, ap, subst, ◌∙◌, inl, inr}
use Rattle.std.proofs.lemmas.List.Elements.{Contains-append_left}
use Rattle.cc2_error.specs.Causes.{refusal_of, plain}
use Rattle.cc2_error.specs.declared.error.Error.{Error}
use Rattle.cc2_value.specs.Cells.{KeyPath, Setting, Word, Origin, key_text}
use Rattle.cc2_value.specs.Shown.{single_at}
use Rattle.cc2_value.specs.Ways.{Flaw, Fault, fault_cause, IsFaultBehind}
use Rattle.cc2_leaf.specs.Lists.{words_at}
use Rattle.cc2_leaf.specs.Made.{Making, single_of, faults_of}
use Rattle.cc2_leaf.specs.TextWays.{TextFault, unmade, text_cause, making_faults, IsReadText, IsTextFault}
use Rattle.cc2_leaf.proofs.Making.{FaultsAgree}

-- the one fault of a text
pub fault_alone : (f : TextFault) (e : Error) → refusal_of e ≡ plain (text_cause f) → IsTextFault (f ∷ []) e
fault_alone f e is = inr (f, (0, omega arith, refl), is)

-- a fault of a text's first part is one of the text
pub fault_first : (fs gs : List TextFault) (e : Error) → IsTextFault fs e → IsTextFault (fs ++ gs) e
fault_first fs gs e (inl memory) = inl memory
fault_first fs gs e (inr h) = inr (h.0, Contains-append_left fs gs h.0 h.1, h.2)

making_refused : (m : Result Setting Fault) (e : Error) → IsFaultBehind [] (faults_of m) e → IsTextFault (making_faults m) e
making_refused m e (inl memory) = inl memory
making_refused (Ok s) e (inr (f, (i, lt, is), says)) = absurd (omega (arith, lt))
making_refused (Err fault) e (inr (f, (zero, lt, is), says)) =
    fault_alone (unmade fault) e (says ∙ ap (λ (g : Flaw). plain (fault_cause ([] ++ map key_text g.0) g.1)) (sym is))
making_refused (Err fault) e (inr (f, (suc i, lt, is), says)) = absurd (omega (arith, lt))

making_same : (m n : Result Setting Fault) → faults_of m ≡ faults_of n → making_faults m ≡ making_faults n
making_same (Ok s) (Ok t) h = refl
making_same (Ok s) (Err g) h = cc
making_same (Err f) (Ok t) h = cc
making_same (Err f) (Err g) h = let same : ◌≡◌ {A = Flaw} ([], f) ([], g) = cc in ap (λ (x : Flaw). unmade x.1 ∷ []) same

module _ (make : Making) (agree : FaultsAgree make) (origin : Option Origin) where
  faults_made : (texts : List (List ℕ)) (words : List Word) → words ≡ words_at origin texts → making_faults (make false (words_at None texts)) ≡ making_faults (make false words)
  faults_made texts words is =
      making_same (make false (words_at None texts)) (make false (words_at origin texts)) (agree false origin texts) ∙ ap (λ (ws : List Word). making_faults (make false ws)) (sym is)

  made_shown : {A : Type 0} (setting : A → Setting) (a : A) (m : Result Setting Fault) → m ≡ Ok (setting a) → (p : KeyPath) → single_at setting a p ≡ single_of m p
  made_shown setting a m h [] = ap (λ o. single_of o []) (sym h)
  made_shown setting a m h (k ∷ p) = ap (λ o. single_of o (k ∷ p)) (sym h)

  pub no_faults : (texts : List (List ℕ)) (words : List Word) (s : Setting) → words ≡ words_at origin texts → make false words ≡ Ok s → making_faults (make false (words_at None texts)) ≡ []
  no_faults texts words s is makes = faults_made texts words is ∙ ap making_faults makes

  -- the words of a text make this value
  pub made_read : {A : Type 0} (setting : A → Setting) (a : A) (texts : List (List ℕ)) (words : List Word) → words ≡ words_at origin texts → make false words ≡ Ok (setting a)
      → IsReadText (single_at setting) (λ p. single_of (make false (words_at origin texts)) p) (making_faults (make false (words_at None texts))) a
  made_read setting a texts words is makes =
      (no_faults texts words (setting a) is makes, made_shown setting a (make false (words_at origin texts)) (ap (λ (ws : List Word). make false ws) (sym is) ∙ makes))

  -- or none
  pub made_unread : (texts : List (List ℕ)) (words : List Word) (e : Error) → words ≡ words_at origin texts → ((keys : List (List ℕ)) → IsFaultBehind keys (faults_of (make false words)) e)
      → IsTextFault (making_faults (make false (words_at None texts))) e
  made_unread texts words e is h = subst (λ (fs : List TextFault). IsTextFault fs e) (sym (faults_made texts words is)) (making_refused (make false words) e (h []))
