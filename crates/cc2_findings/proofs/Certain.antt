-- What is the same whatever rustc prints is so for each list that it prints.
use Rattle.std.proofs.Common.{◌≡◌, Bool, true, false, not, ◌&&◌, ◌||◌, Option, Some, None, refl, ap, ◌∙◌}
use Rattle.cc2_cfg.specs.Grammar.{Tree, Trees, Flag, Pair, AllOf, AnyOf, NotOf, NoTrees, MoreTrees}
use Rattle.cc2_cfg.specs.Logic.{bool_operations, kleene_operations, kleene_and, kleene_or, kleene_not}
use Rattle.cc2_cfg.specs.Meaning.{Atom, FlagAtom, PairAtom, meaning, conj_from, disj_from}

-- a value that is known is that one
abbrev pub Agree : Option Bool → Bool → Type 0
Agree x b = (c : Bool) → x ≡ Some c → b ≡ c

both : (x y : Option Bool) (b c : Bool) → Agree x b → Agree y c → Agree (kleene_and x y) (b && c)
both (Some false) y b c h g d e = ap (λ z. z && c) (h false refl) ∙ cc e
both (Some true) y b c h g d e = ap (λ z. z && c) (h true refl) ∙ g d e
both None (Some false) true c h g d e = g false refl ∙ cc e
both None (Some false) false c h g d e = cc e
both None (Some true) b c h g d e = cc e
both None None b c h g d e = cc e

either : (x y : Option Bool) (b c : Bool) → Agree x b → Agree y c → Agree (kleene_or x y) (b || c)
either (Some true) y b c h g d e = ap (λ z. z || c) (h true refl) ∙ cc e
either (Some false) y b c h g d e = ap (λ z. z || c) (h false refl) ∙ g d e
either None (Some true) false c h g d e = g true refl ∙ cc e
either None (Some true) true c h g d e = cc e
either None (Some false) b c h g d e = cc e
either None None b c h g d e = cc e

neither : (x : Option Bool) (b : Bool) → Agree x b → Agree (kleene_not x) (not b)
neither None b h d e = cc e
neither (Some x) b h d e = ap not (h x refl) ∙ cc e

module _ (known : Atom → Option Bool) (answers : Atom → Bool) (agree : (a : Atom) → Agree (known a) (answers a)) where
  mutual
    -- a tree whose value is known has it
    pub known_means : (t : Tree) → Agree (meaning kleene_operations known t) (meaning bool_operations answers t)
    known_means (Flag w) = agree (FlagAtom w)
    known_means (Pair k v) = agree (PairAtom k v)
    known_means (AllOf ts) = known_all ts (Some true) true (λ c e. cc e)
    known_means (AnyOf ts) = known_any ts (Some false) false (λ c e. cc e)
    known_means (NotOf t) = neither (meaning kleene_operations known t) (meaning bool_operations answers t) (known_means t)

    known_all : (ts : Trees) (x : Option Bool) (b : Bool) → Agree x b → Agree (conj_from kleene_operations known x ts) (conj_from bool_operations answers b ts)
    known_all NoTrees x b h = h
    known_all (MoreTrees t ts) x b h =
        known_all ts (kleene_and x (meaning kleene_operations known t)) (b && meaning bool_operations answers t)
        (both x (meaning kleene_operations known t) b (meaning bool_operations answers t) h (known_means t))

    known_any : (ts : Trees) (x : Option Bool) (b : Bool) → Agree x b → Agree (disj_from kleene_operations known x ts) (disj_from bool_operations answers b ts)
    known_any NoTrees x b h = h
    known_any (MoreTrees t ts) x b h =
        known_any ts (kleene_or x (meaning kleene_operations known t)) (b || meaning bool_operations answers t)
        (either x (meaning kleene_operations known t) b (meaning bool_operations answers t) h (known_means t))
