-- A map that is built at once of resolved members, which have the keys of another map in its order.
use Rattle.std.proofs.Common.{◌≡◌, ℕ, Bool, true, false, cond, List, [], ◌∷◌, ◌++◌, Option, Some, None, String, BTreeMap, Global, string_bytes, nat_cmp, is_eq, refl, sym, subst}
use Rattle.std.specs.BTreeMap.{get_by_text}
use Rattle.std.specs.Cmp.Lexicographic.{slice_cmp}
use Rattle.std.specs.List.Sorted.{IsStrictlySortedBy}
use Rattle.std.specs.Map.{keys_of}
use Rattle.std.specs.String.{string_cmp}
use Rattle.cc2_value.specs.Maps.{found}
use Rattle.cc2_resolved.proofs.ByName.{AreDone}

module _ {X W : Type 0} (Rel : Option X → Option W → Type 0) where
  -- entry by entry, the second list has the keys of the first, and the values are related
  abbrev pub AreMade : List (String Global × X) → List (String Global × W) → Type 0
  AreMade [] [] = Unit {0}
  AreMade [] (w ∷ ws) = ⊥
  AreMade (e ∷ es) [] = ⊥
  AreMade (e ∷ es) (w ∷ ws) = (w.0 ≡ e.0) × Rel (Some e.1) (Some w.1) × AreMade es ws

  -- one entry more
  pub made_more : (es : List (String Global × X)) (ws : List (String Global × W)) (e : String Global × X) (w : String Global × W) → AreMade es ws
      → w.0 ≡ e.0 → Rel (Some e.1) (Some w.1) → AreMade (es ++ e ∷ []) (ws ++ w ∷ [])
  made_more [] [] e w made named is = (named, is, tt)
  made_more [] (v ∷ ws) e w made named is = absurd made
  made_more (d ∷ es) [] e w made named is = absurd made
  made_more (d ∷ es) (v ∷ ws) e w made named is = (made.0, made.1, made_more es ws e w made.2 named is)

  made_keys : (es : List (String Global × X)) (ws : List (String Global × W)) → AreMade es ws → keys_of ws ≡ keys_of es
  made_keys [] [] made = refl
  made_keys [] (w ∷ ws) made = absurd made
  made_keys (e ∷ es) [] made = absurd made
  made_keys (e ∷ es) (w ∷ ws) made = λ i. made.0 i ∷ made_keys es ws made.2 i

  -- they are sorted as the first are
  pub made_sorted : (es : List (String Global × X)) (ws : List (String Global × W)) → AreMade es ws → IsStrictlySortedBy string_cmp (keys_of es) → IsStrictlySortedBy string_cmp (keys_of ws)
  made_sorted es ws made sorted = subst (IsStrictlySortedBy string_cmp) (sym (made_keys es ws made)) sorted

  found_made : Rel None None → (es : List (String Global × X)) (ws : List (String Global × W)) → AreMade es ws → (k : List ℕ) → Rel (found k es) (found k ws)
  found_made none [] [] made k = none
  found_made none [] (w ∷ ws) made k = absurd made
  found_made none (e ∷ es) [] made k = absurd made
  found_made none (e ∷ es) (w ∷ ws) made k =
      subst (λ q. Rel (found k (e ∷ es)) (found k ((q, w.1) ∷ ws))) (sym made.0)
      (either (is_eq (slice_cmp nat_cmp k (string_bytes e.0))) made.1 (found_made none es ws made.2 k))
    where
      either : (b : Bool) → {x : X} {v : W} {o : Option X} {r : Option W} → Rel (Some x) (Some v) → Rel o r → Rel (cond b (Some x) o) (cond b (Some v) r)
      either true is others = is
      either false is others = others

  -- the map of the second list has at each key what the first asks for
  pub made_at_once : Rel None None → (es : List (String Global × X)) (ws : List (String Global × W)) (m : BTreeMap (String Global) W) → AreMade es ws
      → ((k : List ℕ) → get_by_text m k ≡ found k ws) → AreDone Rel es m
  made_at_once none es ws m made is k = subst (λ o. Rel (found k es) o) (sym (is k)) (found_made none es ws made k)
