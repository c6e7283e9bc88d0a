-- Ordered maps that show the same at each text have the same entries, as these are shown.
use Rattle.std.proofs.Common.{
  ◌≡◌,
  ℕ,
  List,
  [],
  ◌∷◌,
  map,
  true,
  false,
  Bool,
  Option,
  Some,
  None,
  option_map,
  String,
  string_bytes,
  refl,
  sym,
  ap,
  subst,
  ◌∙◌,
  if◌then◌else◌,
  inl,
  inr,
}
use Rattle.std.specs.BTreeMap.{BTreeMap, get_by_text, is_at, IsOrdered}
use Rattle.std.specs.Cmp.{tied_itself, eq_by_cmp_equiv}
use Rattle.std.specs.List.Sorted.{IsStrictlySortedBy}
use Rattle.std.specs.Map.{lookup, keys_of}
use Rattle.std.specs.Ordering.{eq_by_cmp, is_eq, ordering_reverse}
use Rattle.std.specs.String.{string_cmp, string_cmp_total}
use Rattle.std.specs.declared.cmp.Ordering.{Ordering}
use Rattle.std.specs.declared.cmp.Ordering.TheVariants.{Less, Equal, Greater}
use Rattle.std.proofs.lemmas.Bool.{cases_Bool}
use Rattle.std.proofs.lemmas.Map.{lookup-none}
use Rattle.std.proofs.lemmas.Map.Entries.{lookup_head, lookup_tail, none_past_head, none_below_head}
use Rattle.std.proofs.lemmas.Map.Keys.{sorted_tail, IsDistinct-from_sorted}
use Rattle.std.proofs.lemmas.Map.Lookups.{exact_bytes}

some_or_none : {Z P : Type 0} (z : Z) → Some z ≡ None → P
some_or_none z h = cc

abbrev value_of : {Z : Type 0} → Option Z → Z → Z
value_of None z = z
value_of (Some y) z = y

module _ {Y Z : Type 0} where
  abbrev AreOrdered : List (String Y × Z) → Type 0
  AreOrdered es = IsStrictlySortedBy string_cmp (keys_of es)

  abbrev find : List (String Y × Z) → String Y → Option Z
  find es q = lookup (is_at (string_cmp q)) es

  abbrev by_bytes : String Y × Z → List ℕ × Z
  by_bytes e = (string_bytes e.0, e.1)

  first_found : (e : String Y × Z) (es : List (String Y × Z)) → find (e ∷ es) e.0 ≡ Some e.1
  first_found e es = lookup_head (is_at (string_cmp e.0)) e es (ap is_eq (tied_itself string_cmp_total e.0))

  module _ (e d : String Y × Z) (es ds : List (String Y × Z)) (is : AreOrdered (e ∷ es)) (also : AreOrdered (d ∷ ds)) (same : (q : String Y) → find (e ∷ es) q ≡ find (d ∷ ds) q) where
    -- neither begins with a key below all of the other's
    first_tied : (r : Ordering) → string_cmp e.0 d.0 ≡ r → string_cmp e.0 d.0 ≡ Equal
    first_tied Less h =
        some_or_none e.1 (sym (first_found e es) ∙ same e.0 ∙ lookup-none _ (d ∷ ds) (none_below_head string_cmp_total e.0 d ds also h))
    first_tied Equal h = h
    first_tied Greater h =
        some_or_none d.1 (sym (first_found d ds) ∙ sym (same d.0)
        ∙ lookup-none _ (e ∷ es) (none_below_head string_cmp_total d.0 e es is (string_cmp_total.antisymm d.0 e.0 ∙ ap ordering_reverse h)))

    tied : string_cmp e.0 d.0 ≡ Equal
    tied = first_tied (string_cmp e.0 d.0) refl

    same_first : by_bytes e ≡ by_bytes d
    same_first =
        let keys = exact_bytes (string_bytes e.0) (string_bytes d.0) tied in
        let values = ap (λ (o : Option Z). value_of o e.1) (sym (first_found e es) ∙ same e.0 ∙ lookup_head (is_at (string_cmp e.0)) d ds (ap is_eq tied)) in
        λ i. (keys i, values i)

    past : (q : String Y) (x : String Y × Z) (xs : List (String Y × Z)) → AreOrdered (x ∷ xs) → eq_by_cmp string_cmp q x.0 ≡ true → find xs q ≡ None
    past q x xs ordered h =
        lookup-none (is_at (string_cmp q)) xs
        (none_past_head (eq_by_cmp_equiv string_cmp_total) q x xs (IsDistinct-from_sorted string_cmp (keys_of (x ∷ xs)) ordered) h)

    same_rest : (q : String Y) → find es q ≡ find ds q
    same_rest q =
        elim (cases_Bool (eq_by_cmp string_cmp q e.0)) [
          | inl at ↦ past q e es is at ∙ sym (past q d ds also (both ∙ at))
          | inr away ↦ sym (lookup_tail (is_at (string_cmp q)) e es away) ∙ same q ∙ lookup_tail (is_at (string_cmp q)) d ds (both ∙ away)
        ]
      where
        both : eq_by_cmp string_cmp q d.0 ≡ eq_by_cmp string_cmp q e.0
        both =
            let tests = eq_by_cmp_equiv string_cmp_total in
            tests.symm q d.0 ∙ sym (tests.congr e.0 d.0 q (ap is_eq tied)) ∙ tests.symm e.0 q

  entries_same : (es ds : List (String Y × Z)) → AreOrdered es → AreOrdered ds → ((q : String Y) → find es q ≡ find ds q) → map by_bytes es ≡ map by_bytes ds
  entries_same [] [] is also same = refl
  entries_same [] (d ∷ ds) is also same = some_or_none d.1 (sym (first_found d ds) ∙ sym (same d.0))
  entries_same (e ∷ es) [] is also same = some_or_none e.1 (sym (first_found e es) ∙ same e.0)
  entries_same (e ∷ es) (d ∷ ds) is also same =
      let first = same_first e d es ds is also same in
      let rest =
      entries_same es ds (sorted_tail string_cmp e.0 (keys_of es) is) (sorted_tail string_cmp d.0 (keys_of ds) also) (same_rest e d es ds is also same) in
      λ i. first i ∷ rest i

map_either : {X Z : Type 0} (f : X → Z) (b : Bool) (x : X) (o : Option X) → (if b then Some (f x) else option_map f o) ≡ option_map f (if b then Some x else o)
map_either f true x o = refl
map_either f false x o = refl

module _ {Y X Z : Type 0} (f : X → Z) where
  abbrev mapped : List (String Y × X) → List (String Y × Z)
  mapped es = map {B = String Y × Z} (λ e. (e.0, f e.1)) es

  abbrev shown : List (String Y × X) → List (List ℕ × Z)
  shown es = map {B = List ℕ × Z} (λ e. (string_bytes e.0, f e.1)) es

  keys_mapped : (es : List (String Y × X)) → keys_of (mapped es) ≡ keys_of es
  keys_mapped [] = refl
  keys_mapped (e ∷ es) = ap (λ ks. e.0 ∷ ks) (keys_mapped es)

  lookup_mapped : (test : String Y → Bool) (es : List (String Y × X)) → lookup test (mapped es) ≡ option_map f (lookup test es)
  lookup_mapped test [] = refl
  lookup_mapped test (e ∷ es) =
      ap (λ (o : Option Z). if test e.0 then Some (f e.1) else o) (lookup_mapped test es) ∙ map_either f (test e.0) e.1 (lookup test es)

  shown_mapped : (es : List (String Y × X)) → map by_bytes (mapped es) ≡ shown es
  shown_mapped [] = refl
  shown_mapped (e ∷ es) = ap (λ xs. (string_bytes e.0, f e.1) ∷ xs) (shown_mapped es)

  ordered_mapped : (es : List (String Y × X)) → AreOrdered es → AreOrdered (mapped es)
  ordered_mapped es is = subst (λ ks. IsStrictlySortedBy string_cmp ks) (sym (keys_mapped es)) is

  pub entries_alike : (m n : BTreeMap (String Y) X) → IsOrdered string_cmp m → IsOrdered string_cmp n
      → ((k : List ℕ) → option_map f (get_by_text m k) ≡ option_map f (get_by_text n k)) → shown m.entries ≡ shown n.entries
  entries_alike m n is also same =
      sym (shown_mapped m.entries)
      ∙ entries_same (mapped m.entries) (mapped n.entries) (ordered_mapped m.entries is) (ordered_mapped n.entries also)
      (λ q. lookup_mapped (is_at (string_cmp q)) m.entries ∙ same (string_bytes q) ∙ sym (lookup_mapped (is_at (string_cmp q)) n.entries))
      ∙ shown_mapped n.entries
