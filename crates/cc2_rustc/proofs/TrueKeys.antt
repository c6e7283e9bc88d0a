-- What is at true keys: what the trees say is what the keys say, and it is one list.
use Rattle.std.proofs.Common.{◌≡◌, ℕ, List, [], ◌∷◌, ◌++◌, refl, sym, ap, ◌∙◌, subst, inl, inr, arith}
use Rattle.std.proofs.Common.{Option, Some, None}
use Rattle.std.specs.Prelude.{Bool, true, false, not, length, ◌==◌, if◌then◌else◌}
use Rattle.std.specs.Bool.{Decides, one_answer}
use borrow.Author.Tests.{ne_eqb}
use Rattle.cc2_cfg.specs.Tokens.{Spelled}
use Rattle.cc2_cfg.specs.Grammar.{Tree}
use Rattle.cc2_cfg.specs.Meaning.{Atom}
use Rattle.cc2_cfg.proofs.Accepting.{blank-refused}
use Rattle.cc2_rustc.specs.Keys.{HasTree, IsKeyTree, IsTrueKey, value_by}
use Rattle.cc2_rustc.specs.Asking.{asked, AreAsking, SomeKeyAsks, true_values, TrueValues}
use Rattle.cc2_rustc.proofs.Judging.{decided-by, decided-none}

-- a blank text has no tree
pub blank-no-tree : (text : List ℕ) (tree : Tree) → Spelled text [] → ¬ (HasTree text tree)
blank-no-tree text tree blank has = blank-refused text blank.0 blank.1 blank.2 has.0 tree has.1 has.2

-- whether a key with this tree is true
found_holds : List Atom → Option Tree → Bool
found_holds atoms (Some tree) = value_by atoms tree
found_holds atoms None = false

found-decides : (atoms : List Atom) (key : List ℕ) (found : Option Tree) → IsKeyTree key found
    → Decides (found_holds atoms found) (IsTrueKey atoms key)
unfolding found_holds
found-decides atoms key (Some tree) is = decided-by atoms key tree (value_by atoms tree) refl is
found-decides atoms key None is = decided-none atoms key is

module _ {X : Type 0} (atoms : List Atom) where
  kept-if : (b : Bool) (tree : Tree) (value : X) (rest : List (Tree × X)) → value_by atoms tree ≡ b
      → true_values atoms ((tree, value) ∷ rest)
      ≡ (if b then value ∷ true_values atoms rest else true_values atoms rest)
  kept-if true tree value rest e = rw e refl
  kept-if false tree value rest e = rw e refl

  found-kept : (found : Option Tree) (value : X) (rest : List (Tree × X))
      → true_values atoms (asked found value ++ rest)
      ≡ (if found_holds atoms found then value ∷ true_values atoms rest else true_values atoms rest)
  unfolding found_holds
  found-kept (Some tree) value rest = kept-if (value_by atoms tree) tree value rest refl
  found-kept None value rest = refl

  pub true_values-are : (entries : List (List ℕ × X)) (asking : List (Tree × X)) → AreAsking entries asking
      → TrueValues atoms entries (true_values atoms asking)
  true_values-are [] asking h = ap (true_values atoms) h
  true_values-are (e ∷ es) asking h = (
    found_holds atoms h.0,
    true_values atoms h.1,
    found-decides atoms e.0 h.0 h.2,
    true_values-are es h.1 h.3,
    ap (true_values atoms) h.4 ∙ found-kept h.0 e.1 h.1,
  )

  -- there is one such list
  pub true_values-same : (entries : List (List ℕ × X)) (values others : List X) → TrueValues atoms entries values
      → TrueValues atoms entries others → values ≡ others
  true_values-same [] values others h k = h ∙ sym k
  true_values-same (e ∷ es) values others h k =
      let same = one_answer h.0 k.0 h.2 k.2 in
      let rest = true_values-same es h.1 k.1 h.3 k.3 in
      h.4 ∙ ap (λ (b : Bool). if b then e.1 ∷ h.1 else h.1) same
      ∙ ap (λ (z : List X). if k.0 then e.1 ∷ z else z) rest ∙ sym k.4

module _ {X : Type 0} where
  -- where a key was found that asks, one does
  some-asks : (entries : List (List ℕ × X)) (first : Tree × X) (asking : List (Tree × X))
      → AreAsking entries (first ∷ asking) → SomeKeyAsks entries
  some-asks [] first asking h = absurd (cc h)
  some-asks (e ∷ es) first asking (Some tree, rest, is, more, eq) = inl (tree, is.0)
  some-asks (e ∷ es) first asking (None, rest, is, more, eq) =
      inr (some-asks es first asking (subst (AreAsking es) (sym eq) more))

  none-asks : (entries : List (List ℕ × X)) → AreAsking entries [] → ¬ (SomeKeyAsks entries)
  none-asks [] h k = k
  none-asks (e ∷ es) (Some tree, rest, is, more, eq) k = absurd (cc eq)
  none-asks (e ∷ es) (None, rest, is, more, eq) (inl k) = absurd (is k.0 k.1)
  none-asks (e ∷ es) (None, rest, is, more, eq) (inr k) = none-asks es (subst (AreAsking es) (sym eq) more) k

  pub asks-decided : (entries : List (List ℕ × X)) (asking : List (Tree × X)) → AreAsking entries asking
      → Decides (not (length asking == 0)) (SomeKeyAsks entries)
  asks-decided entries [] h = (λ e. absurd (cc e), λ k. absurd (none-asks entries h k))
  asks-decided entries (first ∷ asking) h = (
    λ e. some-asks entries first asking h,
    λ k. ap not (ne_eqb (length (first ∷ asking)) 0 (λ e. absurd (omega arith))),
  )

  -- where no key asks, none is true by any list
  pub none-true : (atoms : List Atom) (entries : List (List ℕ × X)) → ¬ (SomeKeyAsks entries)
      → TrueValues atoms entries []
  none-true atoms [] h = refl
  none-true atoms (e ∷ es) h =
      let no : Decides false (IsTrueKey atoms e.0) = ((λ k. absurd (cc k)), λ k. absurd (h (inl (k.0, k.1)))) in
      (false, [], no, none-true atoms es (λ k. h (inr k)), refl)
