-- One turn of the loop that gathers a map into another.
use Rattle.std.proofs.Common.{◌≡◌, ◌≤◌, length, arith, ℕ, Bool, true, false, List, [], ◌∷◌, ◌++◌, Option, Some, None, Result, Ok, String, BTreeMap, Global, refl, ap, ◌∙◌, sym, string_bytes, inl, inr, cond, subst, option_map, nat_cmp}
use Rattle.std.specs.List.Sorted.{IsStrictlySortedBy}
use Rattle.std.specs.Map.{keys_of}
use Rattle.std.specs.Map.Calls.{RetainsPairs}
use Rattle.std.specs.String.{string_cmp}
use Rattle.std.specs.BTreeMap.{is_at, get_by_text}
use Rattle.std.specs.Cmp.Lexicographic.{slice_cmp}
use Rattle.std.specs.Str.{bytes_eq}
use Rattle.cc2_error.specs.Below.{IsBelow}
use Rattle.cc2_error.specs.Causes.{refusal_of}
use Rattle.cc2_error.specs.declared.error.Error.{Error}
use Rattle.cc2_value.specs.Cells.{Cell, field, name, KeyPath}
use Rattle.cc2_value.specs.MapEntries.{entry_of}
use Rattle.cc2_value.specs.Shown.{option_at, map_at}
use Rattle.cc2_value.specs.Maps.{found}
use Rattle.cc2_value.proofs.Found.{same_keys, found_fresh, found_here, sorted_front, found_before, same_bytes}
use Rattle.cc2_value.proofs.TwoCells.{both, both_none}
use Rattle.cc2_value.specs.Gathered.{reversed, IsGathered, IsUngathered, IsUngatheredBelow, IsReversed, HasNoList}
use Rattle.cc2_value.specs.MapEntries.{IsEntryGathered, IsEntryUngathered}
use Rattle.cc2_value.proofs.GatheredTables.{ungathered_below}
use Rattle.cc2_value.proofs.Gathers.{first_gathered}

ok_same : {A E : Type 0} {o : Result A E} (x y : A) → o ≡ Ok x → o ≡ Ok y → x ≡ y
ok_same x y h k = cc

module _ {V : Type 0} (look : V → KeyPath → Option Cell) where
  -- what was gathered at a key, and what is at a key
  abbrev pub H : Option V → KeyPath → Option Cell
  H o p = option_map reversed (option_at look o p)

  abbrev pub L : Option V → KeyPath → Option Cell
  L o p = option_at look o p

  -- the map m is that of high, with the entries done gathered
  abbrev pub AreSoFar : List (String Global × V) → BTreeMap (String Global) V → BTreeMap (String Global) V → Type 0
  AreSoFar done high m = (k : List ℕ) (p : KeyPath) → both (H (get_by_text high k) p) (L (found k done) p) ≡ Ok (H (get_by_text m k) p)

  pub gathered_start : (high : BTreeMap (String Global) V) → AreSoFar [] high high
  gathered_start high k p = both_none (H (get_by_text high k) p)

  untouched : (done : List (String Global × V)) (high m : BTreeMap (String Global) V) (k : List ℕ) → found k done ≡ None → AreSoFar done high m
      → (p : KeyPath) → H (get_by_text high k) p ≡ H (get_by_text m k) p
  untouched done high m k fresh so_far p =
      ok_same (H (get_by_text high k) p) (H (get_by_text m k) p) (both_none (H (get_by_text high k) p))
      (ap (λ o. both (H (get_by_text high k) p) (L o p)) (sym fresh) ∙ so_far k p)

  pub entry_gathered : (m n : BTreeMap (String Global) V) (key : List ℕ) (v w : V)
      → ((k : List ℕ) → get_by_text n k ≡ cond (bytes_eq key k) (Some w) (get_by_text m k))
      → IsGathered (option_at look) (get_by_text m key) (Some v) (Some w) → IsEntryGathered look m key v n
  entry_gathered m n key v w updated made k p =
      elim (same_keys k key) [
        | inl same ↦
            let here : entry_of key v key ≡ Some v = ap (λ b. cond b (Some v) None) (same_bytes key) in
            let got : get_by_text n k ≡ Some w = updated k ∙ ap (λ b. cond b (Some w) (get_by_text m k)) (ap (bytes_eq key) same ∙ same_bytes key) in
            ap (λ q. both (H (get_by_text m q) p) (L (entry_of key v q) p)) same
            ∙ ap (λ o. both (H (get_by_text m key) p) (L o p)) here ∙ made p ∙ ap (λ o. Ok (H o p)) (sym got)
        | inr (apart, apart') ↦
            let none : entry_of key v k ≡ None = ap (λ b. cond b (Some v) None) apart' in
            let got : get_by_text n k ≡ get_by_text m k = updated k ∙ ap (λ b. cond b (Some w) (get_by_text m k)) apart' in
            ap (λ o. both (H (get_by_text m k) p) (L o p)) none ∙ both_none (H (get_by_text m k) p) ∙ ap (λ o. Ok (H o p)) (sym got)
      ]

  pub entry_met : (o : Option V) (x v w : V) → o ≡ Some x → IsGathered look x v w → IsGathered (option_at look) o (Some v) (Some w)
  entry_met o x v w got made = subst (λ (r : Option V). IsGathered (option_at look) r (Some v) (Some w)) (sym got) made

  pub entry_new : (o : Option V) (v w : V) → o ≡ None → IsReversed look v w → IsGathered (option_at look) o (Some v) (Some w)
  entry_new o v w got is = subst (λ (r : Option V). IsGathered (option_at look) r (Some v) (Some w)) (sym got) (first_gathered look (Some v) (Some w) is)

  pub entry_refused : (m : BTreeMap (String Global) V) (key : List ℕ) (x v : V) (inner outer : Error) → get_by_text m key ≡ Some x
      → IsBelow key (refusal_of inner) (refusal_of outer) → IsUngathered look x v inner → IsEntryUngathered look m key v outer
  entry_refused m key x v inner outer got is refused =
      subst (λ (r : Option V). IsUngatheredBelow key (option_at look r) (look v) outer) (sym got) (ungathered_below (look x) (look v) key inner outer is refused)

  pub gathered_more : (done : List (String Global × V)) (e : String Global × V) (more : List (String Global × V)) (high m n : BTreeMap (String Global) V)
      → IsStrictlySortedBy string_cmp (keys_of (done ++ e ∷ more)) → IsEntryGathered look m (string_bytes e.0) e.1 n
      → AreSoFar done high m → AreSoFar (done ++ e ∷ []) high n
  gathered_more done e more high m n sorted merged so_far k p =
      let bs = string_bytes e.0 in
      elim (same_keys k bs) [
        | inl same ↦
            let here : found k (done ++ e ∷ []) ≡ Some e.1 = rw same (found_here done e [] (sorted_front done e more sorted)) in
            let fresh : found k done ≡ None = rw same (found_fresh done e more sorted) in
            let above : H (get_by_text high k) p ≡ H (get_by_text m k) p = untouched done high m k fresh so_far p in
            let alone : entry_of bs e.1 k ≡ Some e.1 = ap (entry_of bs e.1) same ∙ ap (λ b. cond b (Some e.1) None) (same_bytes bs) in
            ap (λ o. both (H (get_by_text high k) p) (L o p)) here ∙ ap (λ c. both c (look e.1 p)) above
            ∙ ap (λ o. both (H (get_by_text m k) p) (L o p)) (sym alone) ∙ merged k p
        | inr (apart, apart') ↦
            let none : entry_of bs e.1 k ≡ None = ap (λ b. cond b (Some e.1) None) apart' in
            let kept : H (get_by_text m k) p ≡ H (get_by_text n k) p =
            ok_same (H (get_by_text m k) p) (H (get_by_text n k) p) (both_none (H (get_by_text m k) p))
            (ap (λ o. both (H (get_by_text m k) p) (L o p)) (sym none) ∙ merged k p) in
            ap (λ o. both (H (get_by_text high k) p) (L o p)) (found_before k done e apart) ∙ so_far k p ∙ ap Ok kept
      ]

  pub ungathered_here : (done : List (String Global × V)) (e : String Global × V) (more : List (String Global × V)) (high low m : BTreeMap (String Global) V) (error : Error)
      → low.entries ≡ done ++ e ∷ more → IsStrictlySortedBy string_cmp (keys_of (done ++ e ∷ more)) → AreSoFar done high m
      → IsEntryUngathered look m (string_bytes e.0) e.1 error → IsUngathered (map_at look) high low error
  ungathered_here done e more high low m error whole sorted so_far (inl memory) = inl memory
  ungathered_here done e more high low m error whole sorted so_far (inr refused) =
      let bs = string_bytes e.0 in
      let p = refused.0 in
      let here : get_by_text low bs ≡ Some e.1 = ap (found bs) whole ∙ found_here done e more sorted in
      let above : H (get_by_text high bs) p ≡ H (get_by_text m bs) p = untouched done high m bs (found_fresh done e more sorted) so_far p in
      inr (
        name bs ∷ p,
        refused.1,
        ap (λ o. both (H (get_by_text high bs) p) (L o p)) here ∙ ap (λ c. both c (look e.1 p)) above ∙ refused.2,
        refused.3,
      )

  pub gathered_map : (high low m : BTreeMap (String Global) V) → AreSoFar low.entries high m → IsGathered (map_at look) high low m
  gathered_map high low m so_far [] = refl
  gathered_map high low m so_far (field k ∷ p) = refl
  gathered_map high low m so_far (name k ∷ p) = so_far k p

-- a map whose values are reversed is reversed
either_reversed : {V : Type 0} (look : V → KeyPath → Option Cell) (b : Bool) (v w : V) (o r : Option V) (p : KeyPath) → IsReversed look v w
    → option_at look r p ≡ option_map reversed (option_at look o p) → option_at look (cond b (Some w) r) p ≡ option_map reversed (option_at look (cond b (Some v) o) p)
either_reversed look true v w o r p h k = h p
either_reversed look false v w o r p h k = k

fewer : {F V : Type 0} (T : F → String Global → V → Bool → V → F → Type 0) (es kept : List (String Global × V)) (f : F) → RetainsPairs T f es kept → length kept ≤ length es
fewer T [] kept f r = omega (arith, ap length r)
fewer T (e ∷ es) kept f (true, w, g, rest, t, more, whole) = omega (arith, ap length whole, fewer T es rest g more)
fewer T (e ∷ es) kept f (false, w, g, rest, t, more, whole) = omega (arith, ap length whole, fewer T es rest g more)

-- the lists of every value are reversed where none goes
pub reversed_pairs : {F V : Type 0} (look : V → KeyPath → Option Cell) (T : F → String Global → V → Bool → V → F → Type 0)
    → ((f : F) (k : String Global) (v : V) (b : Bool) (w : V) (g : F) → T f k v b w g → b ≡ true → IsReversed look v w)
    → (es kept : List (String Global × V)) (f : F) → RetainsPairs T f es kept → length es ≤ length kept
    → (k : List ℕ) (p : KeyPath) → option_at look (found k kept) p ≡ option_map reversed (option_at look (found k es) p)
reversed_pairs look T is [] kept f r le k p = ap (λ es. option_at look (found k es) p) r
reversed_pairs look T is (e ∷ es) kept f (false, w, g, rest, t, more, whole) le k p =
    absurd (omega (arith, ap length whole, fewer T es rest g more, le))
reversed_pairs look T is (e ∷ es) kept f (true, w, g, rest, t, more, whole) le k p =
    let h = is f e.0 e.1 true w g t refl in
    let les : length es ≤ length rest = omega (arith, ap length whole, le) in
    ap (λ xs. option_at look (found k xs) p) whole
    ∙ either_reversed look (is_at (λ x. slice_cmp nat_cmp k (string_bytes x)) e.0) e.1 w (found k es) (found k rest) p h (reversed_pairs look T is es rest g more les k p)

pub map_reversed : {V : Type 0} (look : V → KeyPath → Option Cell) (old new : BTreeMap (String Global) V)
    → ((k : List ℕ) (p : KeyPath) → option_at look (get_by_text new k) p ≡ option_map reversed (option_at look (get_by_text old k) p)) → IsReversed (map_at look) old new
map_reversed look old new h [] = refl
map_reversed look old new h (field k ∷ p) = refl
map_reversed look old new h (name k ∷ p) = h k p

-- what is gathered into an empty map is reversed
empty_at : {V : Type 0} (look : V → KeyPath → Option Cell) (m : BTreeMap (String Global) V) → m.entries ≡ [] → (p : KeyPath) → map_at look m p ≡ None
empty_at look m h [] = refl
empty_at look m h (field k ∷ p) = refl
empty_at look m h (name k ∷ p) = ap (λ es. option_at look (found k es) p) h

-- maps that need not be reversed
pub unlisted_reversed : {V : Type 0} (look : V → KeyPath → Option Cell) (m : BTreeMap (String Global) V) → HasNoList look → IsReversed (map_at look) m m
unlisted_reversed look m n = map_reversed look m m (λ k p. same (get_by_text m k) p)
  where
    same : (o : Option _) (p : KeyPath) → option_at look o p ≡ option_map reversed (option_at look o p)
    same None p = refl
    same (Some v) p = sym (n v p)

pub empty_reversed : {V : Type 0} (look : V → KeyPath → Option Cell) (m : BTreeMap (String Global) V) → m.entries ≡ [] → IsReversed (map_at look) m m
empty_reversed look m h p = ap (λ o. o) (empty_at look m h p) ∙ ap (option_map reversed) (sym (empty_at look m h p))
