-- Values over weaker ones.
use Rattle.std.proofs.Common.{◌≡◌, ◌++◌, ℕ, Bool, true, false, cond, String, BTreeMap, Global, List, [], ◌∷◌, map, string_bytes}
use Rattle.std.proofs.Common.{Option, Some, None, Result, Ok, Err, inl, inr, refl, sym, ap, ◌∙◌}
use Rattle.std.proofs.lemmas.List.{map-append}
use Rattle.std.specs.BTreeMap.{get_by_text}
use Rattle.std.specs.List.Sorted.{IsStrictlySortedBy}
use Rattle.std.specs.Map.{keys_of}
use Rattle.std.specs.Str.{bytes_eq}
use Rattle.std.specs.String.{string_cmp}
use Rattle.toml.specs.declared.value.Value.{Value as TomlValue}
use Rattle.cc2_error.specs.Below.{IsBelow, cause_below}
use Rattle.cc2_error.specs.Causes.{refusal_of, plain, mixed}
use Rattle.cc2_error.specs.declared.error.Error.{Error}
use Rattle.cc2_error.specs.declared.error.Shape.{Shape}
use Rattle.cc2_value.specs.Maps.{found}
use Rattle.cc2_value.specs.declared.value.Value.{Value}
use Rattle.cc2_value.proofs.Found.{same_keys, found_fresh, found_here, sorted_front, found_before, same_bytes}
use Rattle.cc2_cargo.specs.Merging.{IsNotRawOver, IsRawOver, array_over, first_origin, items_over, raw_over, over_at}
use Rattle.cc2_cargo.specs.Raw as cell
use Rattle.cc2_cargo.specs.Raw.{Path, RawCell, array_cell, array_origin, entries_at, member_at, raw_at, raw_entry_at, raw_members_at, raw_value}
use Rattle.cc2_cargo.specs.RawReading.{one_at}
use Rattle.cc2_cargo.specs.declared.raw.Raw.{Raw}
use Rattle.cc2_cargo.specs.declared.raw.RawArray.{RawArray}
use Rattle.cc2_cargo.specs.declared.raw.Raw.TheBlock.{Single as single, Array as array}
use Rattle.cc2_cargo.specs.declared.raw.Raw.TheViews.{Table as table}
use Rattle.cc2_cargo.proofs.Raws.{raw_array, raw_single, raw_table, table_at}

ok_same : {A E : Type 0} {o : Result A E} (x y : A) → o ≡ Ok x → o ≡ Ok y → x ≡ y
ok_same x y h k = cc

-- over nothing
pub over_none : (b : Bool) (o : Option RawCell) → over_at b o None ≡ Ok o
over_none b None = refl
over_none b (Some c) = refl

mapped_over : (replaces : Bool) (ss ts : List (Value TomlValue)) → map raw_value (items_over replaces ss ts) ≡ items_over replaces (map raw_value ss) (map raw_value ts)
mapped_over true ss ts = refl
mapped_over false ss ts = map-append raw_value ts ss

module _ (C : Path → Bool) where
  -- over, by what each value shows
  seen : (strong weak new : Raw) (S W N : Path → Option RawCell) → ((p : Path) → raw_at strong p ≡ S p) → ((p : Path) → raw_at weak p ≡ W p)
      → ((p : Path) → raw_at new p ≡ N p) → IsRawOver C S W N → IsRawOver C (raw_at strong) (raw_at weak) (raw_at new)
  seen strong weak new S W N is is' is'' h p =
      ap (λ o. over_at (C p) o (raw_at weak p)) (is p) ∙ ap (λ o. over_at (C p) (S p) o) (is' p) ∙ h p ∙ ap Ok (sym (is'' p))

  pub tables_over : (s w n : BTreeMap (String Global) Raw) → IsRawOver C (raw_members_at s) (raw_members_at w) (raw_members_at n)
      → IsRawOver C (raw_at (table s)) (raw_at (table w)) (raw_at (table n))
  tables_over s w n h = seen (table s) (table w) (table n) (table_at s) (table_at w) (table_at n) (raw_table s) (raw_table w) (raw_table n) made
    where
      made : IsRawOver C (table_at s) (table_at w) (table_at n)
      made [] = refl
      made (k ∷ p) = h (k ∷ p)

  pub singles_over : (v w : Value TomlValue) → IsRawOver C (raw_at (single v)) (raw_at (single w)) (raw_at (single v))
  singles_over v w = seen (single v) (single w) (single v) (one_at (c v)) (one_at (c w)) (one_at (c v)) (raw_single v) (raw_single w) (raw_single v) made
    where
      c : Value TomlValue → RawCell
      c x = cell.single (raw_value x)

      made : IsRawOver C (one_at (c v)) (one_at (c w)) (one_at (c v))
      made [] = refl
      made (k ∷ p) = refl

  -- an array over another one, by what both come to
  abbrev over : RawArray → RawArray → Bool → RawCell
  over a b replaces = array_over replaces (array_origin a) (map raw_value a.items.items) (array_origin b) (map raw_value b.items.items)

  arrays : (a b n : RawArray) → over a b (C []) ≡ array_cell n → IsRawOver C (raw_at (array a)) (raw_at (array b)) (raw_at (array n))
  arrays a b n is =
      seen (array a) (array b) (array n) (one_at (array_cell a)) (one_at (array_cell b)) (one_at (array_cell n)) (raw_array a) (raw_array b) (raw_array n) made
    where
      made : IsRawOver C (one_at (array_cell a)) (one_at (array_cell b)) (one_at (array_cell n))
      made [] = ap (λ c. Ok (Some c)) is
      made (k ∷ p) = refl

  pub arrays_over : (a b n : RawArray) → n.items.items ≡ items_over (C []) a.items.items b.items.items
      → first_origin (array_origin a) (array_origin b) ≡ array_origin n → IsRawOver C (raw_at (array a)) (raw_at (array b)) (raw_at (array n))
  arrays_over a b n items set =
      let values : items_over (C []) (map raw_value a.items.items) (map raw_value b.items.items) ≡ map raw_value n.items.items =
      sym (mapped_over (C []) a.items.items b.items.items) ∙ ap (map raw_value) (sym items) in
      arrays a b n (λ i. cell.array (set i) (values i))

  -- two shapes meet at the values themselves
  pub differ_here : (strong weak : Raw) (c d : RawCell) (expected met : Shape) (e : Error) → raw_at strong [] ≡ Some c → raw_at weak [] ≡ Some d
      → raw_over (C []) c d ≡ Err (expected, met) → refusal_of e ≡ plain (mixed [] expected met) → IsNotRawOver C (raw_at strong) (raw_at weak) e
  differ_here strong weak c d expected met e is is' meets says =
      inr ([], ((expected, met), ap (λ o. over_at (C []) o (raw_at weak [])) is ∙ ap (λ o. over_at (C []) (Some c) o) is' ∙ meets, says))

  -- what is refused of the members is refused of the tables
  pub tables_refused : (s w : BTreeMap (String Global) Raw) (e : Error) → IsNotRawOver C (raw_members_at s) (raw_members_at w) e → IsNotRawOver C (raw_at (table s)) (raw_at (table w)) e
  tables_refused s w e (inl memory) = inl memory
  tables_refused s w e (inr ([], (shapes, meets, says))) = cc
  tables_refused s w e (inr (k ∷ p, (shapes, meets, says))) =
      inr (
        k ∷ p,
        (
          shapes,
          ap (λ o. over_at (C (k ∷ p)) o (raw_at (table w) (k ∷ p))) (raw_table s (k ∷ p))
              ∙ ap (λ o. over_at (C (k ∷ p)) (raw_members_at s (k ∷ p)) o) (raw_table w (k ∷ p)) ∙ meets,
          says,
        ),
      )

  -- no member is put yet
  pub none_put : (m : BTreeMap (String Global) Raw) → IsRawOver C (entries_at []) (raw_members_at m) (raw_members_at m)
  none_put m [] = refl
  none_put m (k ∷ p) = refl

  untouched : (done : List (String Global × Raw)) (m n : BTreeMap (String Global) Raw) (k : List ℕ) (p : Path) → found k done ≡ None
      → IsRawOver C (entries_at done) (raw_members_at m) (raw_members_at n) → member_at (get_by_text m k) p ≡ member_at (get_by_text n k) p
  untouched done m n k p fresh so_far =
      ok_same (member_at (get_by_text m k) p) (member_at (get_by_text n k) p) refl
      (ap (λ o. over_at (C (k ∷ p)) (member_at o p) (member_at (get_by_text m k) p)) (sym fresh) ∙ so_far (k ∷ p))

  alone : (key k : List ℕ) (r : Raw) (p : Path) → k ≡ key → raw_entry_at key r (k ∷ p) ≡ raw_at r p
  alone key k r p same = ap (λ q. raw_entry_at key r (q ∷ p)) same ∙ ap (λ b. cond b (raw_at r p) None) (same_bytes key)

  -- one member more
  pub one_more : (done : List (String Global × Raw)) (e : String Global × Raw) (more : List (String Global × Raw)) (m n o : BTreeMap (String Global) Raw)
      → IsStrictlySortedBy string_cmp (keys_of (done ++ e ∷ more)) → IsRawOver C (raw_entry_at (string_bytes e.0) e.1) (raw_members_at n) (raw_members_at o)
      → IsRawOver C (entries_at done) (raw_members_at m) (raw_members_at n) → IsRawOver C (entries_at (done ++ e ∷ [])) (raw_members_at m) (raw_members_at o)
  one_more done e more m n o sorted put so_far [] = refl
  one_more done e more m n o sorted put so_far (k ∷ p) =
      let bs = string_bytes e.0 in
      let M = member_at (get_by_text m k) p in
      let N = member_at (get_by_text n k) p in
      elim (same_keys k bs) [
        | inl same ↦
            let here : found k (done ++ e ∷ []) ≡ Some e.1 = rw same (found_here done e [] (sorted_front done e more sorted)) in
            let fresh : found k done ≡ None = rw same (found_fresh done e more sorted) in
            ap (λ f. over_at (C (k ∷ p)) (member_at f p) M) here
            ∙ ap (λ c. over_at (C (k ∷ p)) (raw_at e.1 p) c) (untouched done m n k p fresh so_far)
            ∙ ap (λ c. over_at (C (k ∷ p)) c N) (sym (alone bs k e.1 p same)) ∙ put (k ∷ p)
        | inr (apart, apart') ↦
            let none : raw_entry_at bs e.1 (k ∷ p) ≡ None = ap (λ b. cond b (raw_at e.1 p) None) apart' in
            let kept : N ≡ member_at (get_by_text o k) p =
            ok_same N (member_at (get_by_text o k) p) refl (ap (λ c. over_at (C (k ∷ p)) c N) (sym none) ∙ put (k ∷ p)) in
            ap (λ f. over_at (C (k ∷ p)) (member_at f p) M) (found_before k done e apart) ∙ so_far (k ∷ p) ∙ ap Ok kept
      ]

  -- a member that isn't put
  pub one_refused : (done : List (String Global × Raw)) (e : String Global × Raw) (more : List (String Global × Raw)) (s m n : BTreeMap (String Global) Raw)
      (error : Error) → s.entries ≡ done ++ e ∷ more → IsStrictlySortedBy string_cmp (keys_of (done ++ e ∷ more))
      → IsRawOver C (entries_at done) (raw_members_at m) (raw_members_at n) → IsNotRawOver C (raw_entry_at (string_bytes e.0) e.1) (raw_members_at n) error
      → IsNotRawOver C (raw_members_at s) (raw_members_at m) error
  one_refused done e more s m n error whole sorted so_far (inl memory) = inl memory
  one_refused done e more s m n error whole sorted so_far (inr ([], (shapes, meets, says))) = cc
  one_refused done e more s m n error whole sorted so_far (inr (k ∷ p, (shapes, meets, says))) =
      let bs = string_bytes e.0 in
      let M = member_at (get_by_text m k) p in
      let N = member_at (get_by_text n k) p in
      elim (same_keys k bs) [
        | inl same ↦
            let here : get_by_text s k ≡ Some e.1 = ap (found k) whole ∙ rw same (found_here done e more sorted) in
            let fresh : found k done ≡ None = rw same (found_fresh done e more sorted) in
            inr (
              k ∷ p,
              (
                shapes,
                ap (λ f. over_at (C (k ∷ p)) (member_at f p) M) here
                    ∙ ap (λ c. over_at (C (k ∷ p)) (raw_at e.1 p) c) (untouched done m n k p fresh so_far)
                    ∙ ap (λ c. over_at (C (k ∷ p)) c N) (sym (alone bs k e.1 p same)) ∙ meets,
                says,
              ),
            )
        | inr (apart, apart') ↦
            let none : over_at (C (k ∷ p)) (raw_entry_at bs e.1 (k ∷ p)) N ≡ Ok N = ap (λ b. over_at (C (k ∷ p)) (cond b (raw_at e.1 p) None) N) apart' in
            absurd (fails N shapes (sym none ∙ meets))
      ]
    where
      fails : (o : Option RawCell) (shapes : Shape × Shape) → Ok o ≡ Err shapes → ⊥
      fails o shapes h = cc

  -- a member at a new key
  pub new_put : (key : List ℕ) (r : Raw) (m n : BTreeMap (String Global) Raw) → get_by_text m key ≡ None
      → ((k : List ℕ) → get_by_text n k ≡ cond (bytes_eq key k) (Some r) (get_by_text m k))
      → IsRawOver C (raw_entry_at key r) (raw_members_at m) (raw_members_at n)
  new_put key r m n fresh updated [] = refl
  new_put key r m n fresh updated (k ∷ p) =
      elim (same_keys k key) [
        | inl same ↦
            let got : get_by_text n k ≡ Some r = updated k ∙ ap (λ b. cond b (Some r) (get_by_text m k)) (ap (bytes_eq key) same ∙ same_bytes key) in
            let none : get_by_text m k ≡ None = ap (get_by_text m) same ∙ fresh in
            ap (λ c. over_at (C (k ∷ p)) c (member_at (get_by_text m k) p)) (alone key k r p same)
            ∙ ap (λ f. over_at (C (k ∷ p)) (raw_at r p) (member_at f p)) none
            ∙ over_none (C (k ∷ p)) (raw_at r p) ∙ ap (λ f. Ok (member_at f p)) (sym got)
        | inr (apart, apart') ↦
            let got : get_by_text n k ≡ get_by_text m k = updated k ∙ ap (λ b. cond b (Some r) (get_by_text m k)) apart' in
            ap (λ b. over_at (C (k ∷ p)) (cond b (raw_at r p) None) (member_at (get_by_text m k) p)) apart' ∙ ap (λ f. Ok (member_at f p)) (sym got)
      ]

  -- a member over the one at its key
  pub met_put : (D : Path → Bool) (key : List ℕ) (r x w : Raw) (m n : BTreeMap (String Global) Raw) → get_by_text m key ≡ Some x
      → ((k : List ℕ) → get_by_text n k ≡ cond (bytes_eq key k) (Some w) (get_by_text m k))
      → ((p : Path) → D p ≡ C (key ∷ p)) → IsRawOver D (raw_at r) (raw_at x) (raw_at w)
      → IsRawOver C (raw_entry_at key r) (raw_members_at m) (raw_members_at n)
  met_put D key r x w m n at updated below h [] = refl
  met_put D key r x w m n at updated below h (k ∷ p) =
      elim (same_keys k key) [
        | inl same ↦
            let got : get_by_text n k ≡ Some w = updated k ∙ ap (λ b. cond b (Some w) (get_by_text m k)) (ap (bytes_eq key) same ∙ same_bytes key) in
            let had : get_by_text m k ≡ Some x = ap (get_by_text m) same ∙ at in
            ap (λ c. over_at (C (k ∷ p)) c (member_at (get_by_text m k) p)) (alone key k r p same)
            ∙ ap (λ f. over_at (C (k ∷ p)) (raw_at r p) (member_at f p)) had
            ∙ ap (λ q. over_at (C (q ∷ p)) (raw_at r p) (raw_at x p)) same
            ∙ ap (λ b. over_at b (raw_at r p) (raw_at x p)) (sym (below p)) ∙ h p ∙ ap (λ f. Ok (member_at f p)) (sym got)
        | inr (apart, apart') ↦
            let got : get_by_text n k ≡ get_by_text m k = updated k ∙ ap (λ b. cond b (Some w) (get_by_text m k)) apart' in
            ap (λ b. over_at (C (k ∷ p)) (cond b (raw_at r p) None) (member_at (get_by_text m k) p)) apart' ∙ ap (λ f. Ok (member_at f p)) (sym got)
      ]

  -- what is refused at a key
  pub met_refused : (D : Path → Bool) (key : List ℕ) (r x : Raw) (m : BTreeMap (String Global) Raw) (inner outer : Error) → get_by_text m key ≡ Some x
      → ((p : Path) → D p ≡ C (key ∷ p)) → IsBelow key (refusal_of inner) (refusal_of outer) → IsNotRawOver D (raw_at r) (raw_at x) inner
      → IsNotRawOver C (raw_entry_at key r) (raw_members_at m) outer
  met_refused D key r x m inner outer at below (inl memory) h = inl memory
  met_refused D key r x m inner outer at below (inr is) (inl memory) = inl (is ∙ ap (λ c. record { cause = cause_below key c.cause; context = c.context }) memory)
  met_refused D key r x m inner outer at below (inr is) (inr (p, (shapes, meets, says))) =
      inr (
        key ∷ p,
        (
          shapes,
          ap (λ c. over_at (C (key ∷ p)) c (member_at (get_by_text m key) p)) (alone key key r p refl)
              ∙ ap (λ f. over_at (C (key ∷ p)) (raw_at r p) (member_at f p)) at
              ∙ ap (λ b. over_at b (raw_at r p) (raw_at x p)) (sym (below p)) ∙ meets,
          is ∙ ap (λ c. record { cause = cause_below key c.cause; context = c.context }) says,
        ),
      )
