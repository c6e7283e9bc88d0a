-- A map that is built at once from entries that are sorted by their keys.
use Rattle.std.proofs.Common.{◌≡◌, ℕ, true, false, cond, List, [], ◌∷◌, ◌++◌, Option, Some, None, String, BTreeMap, Global, Ordering, Less, Equal, Greater, string_bytes, nat_cmp, is_eq, refl, sym, ap, subst, ◌∙◌, inl, inr, ◌⊎◌}
use Rattle.std.proofs.lemmas.Bool.{cases_Bool}
use Rattle.std.proofs.lemmas.Map.Keys.{sorted_head, sorted_tail}
use Rattle.std.proofs.lemmas.Map.Text.{is_eq-slice_cmp}
use Rattle.std.proofs.lemmas.Slice.Eq.{bytes_eq-Decides}
use Rattle.std.specs.BTreeMap.{is_at, get_by_text, IsFromIterResult}
use Rattle.std.specs.Cmp.Lexicographic.{slice_cmp}
use Rattle.std.specs.List.{AllByRecursion}
use Rattle.std.specs.List.Sorted.{IsStrictlySortedBy}
use Rattle.std.specs.Map.{keys_of, lookup, update, update_all}
use Rattle.std.specs.Ordering.{eq_by_cmp, ordering_reverse}
use Rattle.std.specs.String.{string_cmp, string_cmp_total}
use Rattle.cc2_value.specs.Cells.{Cell, KeyPath}
use Rattle.cc2_value.specs.Maps.{found}
use Rattle.cc2_value.specs.Shown.{option_at}
use Rattle.cc2_value.proofs.Built.{IsBuilt}

eq_turned : (o : Ordering) → is_eq (ordering_reverse o) ≡ is_eq o
eq_turned Less = refl
eq_turned Equal = refl
eq_turned Greater = refl

module _ {X : Type 0} where
  -- what inserting the entries in turn leaves at a key that none of them has
  passed : (f : String Global → Option X) (k q : String Global) (es : List (String Global × X)) → AllByRecursion (λ y. string_cmp k y ≡ Less) (keys_of es)
      → string_cmp k q ≡ Equal → update_all (eq_by_cmp string_cmp) f es q ≡ f q
  passed f k q [] above tied = refl
  passed f k q (e ∷ es) above tied =
      let apart : is_eq (string_cmp e.0 q) ≡ false =
      ap is_eq (string_cmp_total.antisymm e.0 q) ∙ eq_turned (string_cmp q e.0)
      ∙ ap is_eq (sym (string_cmp_total.congr k q e.0 tied)) ∙ ap is_eq above.0 in
      passed (update (eq_by_cmp string_cmp) f e.0 (Some e.1)) k q es above.1 tied ∙ ap (λ b. cond b (Some e.1) (f q)) apart

  -- inserting sorted entries in turn leaves at each key what is found there
  inserted : (f : String Global → Option X) (q : String Global) (es : List (String Global × X)) → IsStrictlySortedBy string_cmp (keys_of es)
      → f q ≡ None → update_all (eq_by_cmp string_cmp) f es q ≡ lookup (is_at (string_cmp q)) es
  inserted f q [] sorted none = none
  inserted f q (e ∷ es) sorted none =
      let turned : is_eq (string_cmp e.0 q) ≡ is_eq (string_cmp q e.0) = ap is_eq (string_cmp_total.antisymm e.0 q) ∙ eq_turned (string_cmp q e.0) in
      let next = update (eq_by_cmp string_cmp) f e.0 (Some e.1) in
      elim (cases_Bool (is_eq (string_cmp q e.0))) [
        | inl same ↦
            passed next e.0 q es (sorted_head string_cmp e.0 (keys_of es) sorted) (tied (string_cmp e.0 q) (turned ∙ same))
            ∙ ap (λ b. cond b (Some e.1) (f q)) (turned ∙ same) ∙ sym (ap (λ b. cond b (Some e.1) (lookup (is_at (string_cmp q)) es)) same)
        | inr apart ↦
            inserted next q es (sorted_tail string_cmp e.0 (keys_of es) sorted) (ap (λ b. cond b (Some e.1) (f q)) (turned ∙ apart) ∙ none)
            ∙ sym (ap (λ b. cond b (Some e.1) (lookup (is_at (string_cmp q)) es)) apart)
      ]
    where
      tied : (o : Ordering) → is_eq o ≡ true → o ≡ Equal
      tied Less h = cc
      tied Equal h = refl
      tied Greater h = cc

  -- the bytes k, as a key among the entries
  key_found : (k : List ℕ) (es : List (String Global × X)) → (found k es ≡ None) ⊎ ((q : String Global) × (string_bytes q ≡ k))
  key_found k [] = inl refl
  key_found k (e ∷ es) =
      elim (cases_Bool (is_eq (slice_cmp nat_cmp k (string_bytes e.0)))) [
        | inl same ↦ inr (e.0, sym ((bytes_eq-Decides k (string_bytes e.0)).0 (sym (is_eq-slice_cmp k (string_bytes e.0)) ∙ same)))
        | inr apart ↦
            elim (key_found k es) [
              | inl none ↦ inl (ap (λ b. cond b (Some e.1) (found k es)) apart ∙ none)
              | inr key ↦ inr key
            ]
      ]

  -- what is alike at each key is so at all bytes
  at_bytes : (es fs : List (String Global × X)) → ((q : String Global) → found (string_bytes q) es ≡ found (string_bytes q) fs) → (k : List ℕ) → found k es ≡ found k fs
  at_bytes es fs alike k =
      elim (key_found k es) [
        | inr (q, same) ↦ subst (λ l. found l es ≡ found l fs) same (alike q)
        | inl none ↦
            elim (key_found k fs) [
              | inr (q, same) ↦ subst (λ l. found l es ≡ found l fs) same (alike q)
              | inl none' ↦ none ∙ sym none'
            ]
      ]

  -- a map of sorted entries has at each key what is found among them
  pub map_of_sorted : (es : List (String Global × X)) (m : BTreeMap (String Global) X) → IsStrictlySortedBy string_cmp (keys_of es) → IsFromIterResult string_cmp es m
      → (k : List ℕ) → get_by_text m k ≡ found k es
  map_of_sorted es m sorted built k = at_bytes m.entries es (λ q. built.0 q ∙ inserted (λ _. None) q es sorted refl) k

module _ {X V : Type 0} (look : V → KeyPath → Option Cell) (seen : List ℕ → KeyPath → Option X → Option Cell) where
  -- entry by entry, the second list has the keys of the first, and its values show what `seen` says
  abbrev pub AreMade : List (String Global × X) → List (String Global × V) → Type 0
  AreMade [] [] = Unit {0}
  AreMade [] (v ∷ vs) = ⊥
  AreMade (e ∷ es) [] = ⊥
  AreMade (e ∷ es) (v ∷ vs) = (string_bytes v.0 ≡ string_bytes e.0) × ((p : KeyPath) → seen (string_bytes e.0) p (Some e.1) ≡ look v.1 p) × AreMade es vs

  -- one entry more
  pub made_more : (es : List (String Global × X)) (vs : List (String Global × V)) (e : String Global × X) (v : String Global × V) → AreMade es vs
      → string_bytes v.0 ≡ string_bytes e.0 → ((p : KeyPath) → seen (string_bytes e.0) p (Some e.1) ≡ look v.1 p) → AreMade (es ++ e ∷ []) (vs ++ v ∷ [])
  made_more [] [] e v made named shown = (named, shown, tt)
  made_more [] (w ∷ vs) e v made named shown = absurd made
  made_more (d ∷ es) [] e v made named shown = absurd made
  made_more (d ∷ es) (w ∷ vs) e v made named shown = (made.0, made.1, made_more es vs e v made.2 named shown)

  above_made : (k l : String Global) (es : List (String Global × X)) (vs : List (String Global × V)) → string_bytes l ≡ string_bytes k → AreMade es vs
      → AllByRecursion (λ y. string_cmp k y ≡ Less) (keys_of es) → AllByRecursion (λ y. string_cmp l y ≡ Less) (keys_of vs)
  above_made k l [] [] named made above = tt
  above_made k l [] (v ∷ vs) named made above = absurd made
  above_made k l (e ∷ es) [] named made above = absurd made
  above_made k l (e ∷ es) (v ∷ vs) named made above = (
    (λ i. slice_cmp nat_cmp (named i) (made.0 i)) ∙ above.0,
    above_made k l es vs named made.2 above.1,
  )

  -- they are sorted as the first are
  pub made_sorted : (es : List (String Global × X)) (vs : List (String Global × V)) → AreMade es vs → IsStrictlySortedBy string_cmp (keys_of es) → IsStrictlySortedBy string_cmp (keys_of vs)
  unfolding IsStrictlySortedBy
  made_sorted [] [] made sorted = tt
  made_sorted [] (v ∷ vs) made sorted = absurd made
  made_sorted (e ∷ es) [] made sorted = absurd made
  made_sorted (e ∷ es) (v ∷ vs) made sorted = (above_made e.0 v.0 es vs made.0 made.2 sorted.0, made_sorted es vs made.2 sorted.1)

  -- nothing is shown where no entry is
  abbrev pub IsNoneSeen : Type 0
  IsNoneSeen = (k : List ℕ) (p : KeyPath) → seen k p None ≡ None

  found_made : IsNoneSeen → (es : List (String Global × X)) (vs : List (String Global × V)) → AreMade es vs → (k : List ℕ) (p : KeyPath) → seen k p (found k es) ≡ option_at look (found k vs) p
  found_made none [] [] made k p = none k p
  found_made none [] (v ∷ vs) made k p = absurd made
  found_made none (e ∷ es) [] made k p = absurd made
  found_made none (e ∷ es) (v ∷ vs) made k p =
      let named : is_eq (slice_cmp nat_cmp k (string_bytes v.0)) ≡ is_eq (slice_cmp nat_cmp k (string_bytes e.0)) = ap (λ bs. is_eq (slice_cmp nat_cmp k bs)) made.0 in
      elim (cases_Bool (is_eq (slice_cmp nat_cmp k (string_bytes e.0)))) [
        | inl same ↦
            let at : string_bytes e.0 ≡ k = sym ((bytes_eq-Decides k (string_bytes e.0)).0 (sym (is_eq-slice_cmp k (string_bytes e.0)) ∙ same)) in
            ap (λ b. seen k p (cond b (Some e.1) (found k es))) same ∙ subst (λ l. seen l p (Some e.1) ≡ look v.1 p) at (made.1 p)
            ∙ sym (ap (λ b. option_at look (cond b (Some v.1) (found k vs)) p) (named ∙ same))
        | inr apart ↦
            ap (λ b. seen k p (cond b (Some e.1) (found k es))) apart ∙ found_made none es vs made.2 k p
            ∙ sym (ap (λ b. option_at look (cond b (Some v.1) (found k vs)) p) (named ∙ apart))
      ]

  -- the map of the second list is built of the first
  pub built_at_once : IsNoneSeen → (es : List (String Global × X)) (vs : List (String Global × V)) (m : BTreeMap (String Global) V) → AreMade es vs
      → ((k : List ℕ) → get_by_text m k ≡ found k vs) → IsBuilt look seen es m
  built_at_once none es vs m made is k p = found_made none es vs made k p ∙ ap (λ o. option_at look o p) (sym (is k))

-- what is made of a list has its keys, also where another look says what is seen
pub made_named : {X V : Type 0} (look : V → KeyPath → Option Cell) (seen : List ℕ → KeyPath → Option X → Option Cell)
    (look' : V → KeyPath → Option Cell) (seen' : List ℕ → KeyPath → Option X → Option Cell) → ((k : List ℕ) (p : KeyPath) (x : X) (v : V) → seen' k p (Some x) ≡ look' v p)
    → (es : List (String Global × X)) (vs : List (String Global × V)) → AreMade look seen es vs → AreMade look' seen' es vs
made_named look seen look' seen' same [] [] made = tt
made_named look seen look' seen' same [] (v ∷ vs) made = absurd made
made_named look seen look' seen' same (e ∷ es) [] made = absurd made
made_named look seen look' seen' same (e ∷ es) (v ∷ vs) made =
    (made.0, (λ p. same (string_bytes e.0) p e.1 v.1), made_named look seen look' seen' same es vs made.2)
