-- A tree that is dead is false by each list that rustc may print.
use Rattle.std.proofs.Common.{◌≡◌, nat_le, Bool, true, false, cond, ◌&&◌, ◌||◌, List, [], ◌∷◌, length, Option, Some, None, refl, sym, ap, ◌∙◌}
use Rattle.std.specs.Prelude.{bytes_eq}
use Rattle.std.proofs.lemmas.Slice.Eq.{bytes_eq-Decides}
use Rattle.cc2_cfg.specs.Grammar.{Tree}
use Rattle.cc2_cfg.specs.Logic.{kleene_operations}
use Rattle.cc2_cfg.specs.Meaning.{Atom, FlagAtom, PairAtom, meaning, predicates_of}
use Rattle.cc2_rustc.specs.Holds.{is_always, is_never, has, holds}
use Rattle.cc2_rustc.specs.Keys.{value_by}
use Rattle.cc2_rustc.specs.Printed.{same_atom}
use Rattle.cc2_findings.specs.Dead.{certain, known_by, is_false, never_by, is_dead}
use Rattle.cc2_findings.proofs.Certain.{Agree, known_means}

-- what is certain holds by each list
by_tests : (always never listed : Bool) → Agree (cond always (Some true) (cond never (Some false) None)) (cond always true (cond never false listed))
by_tests true never listed c e = cc e
by_tests false true listed c e = cc e
by_tests false false listed c e = cc e

certain_holds : (atoms : List Atom) (a : Atom) → Agree (certain a) (holds atoms a)
certain_holds atoms a = by_tests (is_always a) (is_never a) (has atoms a)

both_true : (x y : Bool) → (x && y) ≡ true → (x ≡ true) × (y ≡ true)
both_true true true e = (refl, refl)
both_true true false e = cc e
both_true false y e = cc e

-- predicates that are the same are one
one_atom : (a b : Atom) → same_atom a b ≡ true → a ≡ b
one_atom (FlagAtom word) (FlagAtom other) e = ap FlagAtom ((bytes_eq-Decides word other).0 e)
one_atom (FlagAtom word) (PairAtom key value) e = cc e
one_atom (PairAtom key value) (FlagAtom other) e = cc e
one_atom (PairAtom key value) (PairAtom name text) e =
    let both = both_true (bytes_eq key name) (bytes_eq value text) e in
    ap (λ k. PairAtom k value) ((bytes_eq-Decides key name).0 both.0) ∙ ap (PairAtom name) ((bytes_eq-Decides value text).0 both.1)

-- what is known with one predicate more, decided as a list has it
decided_holds : (atoms : List Atom) (ds : List (Atom × Bool)) (a : Atom) → ((x : Atom) → Agree (known_by ds x) (holds atoms x))
    → (b : Bool) → holds atoms a ≡ b → (x : Atom) → Agree (known_by ((a, b) ∷ ds) x) (holds atoms x)
decided_holds atoms ds a agree b is x = by_same (same_atom a x) refl
  where
    by_same : (t : Bool) → same_atom a x ≡ t → Agree (cond t (Some b) (known_by ds x)) (holds atoms x)
    by_same true e c h = ap (holds atoms) (sym (one_atom a x e)) ∙ is ∙ cc h
    by_same false e c h = agree x c h

false_value : (v : Option Bool) → is_false v ≡ true → v ≡ Some false
false_value None e = cc e
false_value (Some true) e = cc e
false_value (Some false) e = refl

-- a list has a predicate or hasn't, and what it has is one of the two that are tried
of_two : (atoms : List Atom) (a : Atom) (x y : Bool) {P : Type 0} → (x && y) ≡ true
    → (holds atoms a ≡ true → x ≡ true → P) → (holds atoms a ≡ false → y ≡ true → P) → P
of_two atoms a x y {P} e with_it without_it = by_list (holds atoms a) refl
  where
    by_list : (b : Bool) → holds atoms a ≡ b → P
    by_list true is = with_it is (both_true x y e).0
    by_list false is = without_it is (both_true x y e).1

-- whichever predicates are left, the list has each or hasn't
never_false : (atoms : List Atom) (tree : Tree) (others : List Atom) (ds : List (Atom × Bool)) → ((x : Atom) → Agree (known_by ds x) (holds atoms x))
    → never_by ds others tree ≡ true → value_by atoms tree ≡ false
never_false atoms tree [] ds agree e =
    known_means (known_by ds) (holds atoms) agree tree false (false_value (meaning kleene_operations (known_by ds) tree) e)
never_false atoms tree (a ∷ others) ds agree e =
    of_two atoms a (never_by ((a, true) ∷ ds) others tree) (never_by ((a, false) ∷ ds) others tree) e
    (λ is never. never_false atoms tree others ((a, true) ∷ ds) (decided_holds atoms ds a agree true is) never)
    (λ is never. never_false atoms tree others ((a, false) ∷ ds) (decided_holds atoms ds a agree false is) never)

by_parts : (atoms : List Atom) (tree : Tree) (b few : Bool) → b ≡ is_false (meaning kleene_operations (known_by []) tree)
    → (b || (few && never_by [] (predicates_of tree) tree)) ≡ true → value_by atoms tree ≡ false
by_parts atoms tree true few is e =
    known_means (known_by []) (holds atoms) (certain_holds atoms) tree false
    (false_value (meaning kleene_operations (known_by []) tree) (sym is))
by_parts atoms tree false few is e =
    never_false atoms tree (predicates_of tree) [] (certain_holds atoms) (both_true few (never_by [] (predicates_of tree) tree) e).1

-- a dead tree is false
pub dead_false : (atoms : List Atom) (tree : Tree) → is_dead tree ≡ true → value_by atoms tree ≡ false
dead_false atoms tree e =
    by_parts atoms tree (is_false (meaning kleene_operations (known_by []) tree)) (nat_le (length (predicates_of tree)) 8) refl e
