-- Raw values as they are read from TOML.
use Rattle.std.proofs.Common.{◌≡◌, Contains, arith, zero, suc, ℕ, ℤ, nat_cmp, Bool, true, false, List, [], ◌∷◌, ◌++◌, map}
use Rattle.std.proofs.Common.{Option, Some, None, IfSome, option_map, String, BTreeMap, Global, string_bytes, refl, sym, ap, ◌∙◌, subst, inl, inr}
use Rattle.std.specs.Prelude.{if◌then◌else◌}
use Rattle.std.proofs.lemmas.List.Elements.{Contains-append_left, Contains-append_right}
use Rattle.std.specs.BTreeMap.{get_by_text, is_at}
use Rattle.std.specs.Cmp.Lexicographic.{slice_cmp}
use Rattle.std.specs.List.Sorted.{IsStrictlySortedBy}
use Rattle.std.specs.Map.{keys_of}
use Rattle.std.specs.String.{string_cmp}
use Rattle.toml.specs.Data.{Data, Items, Members, table, array, string, integer, boolean}
use Rattle.toml.specs.View.{view, members_view}
use Rattle.toml.specs.declared.value.Value.{Value as TomlValue}
use Rattle.toml.proofs.Views.{Entry, view-lookup}
use Rattle.cc2_error.specs.Below.{IsBelow, cause_below}
use Rattle.cc2_error.specs.Causes.{refusal_of}
use Rattle.cc2_error.specs.declared.error.Error.{Error}
use Rattle.cc2_value.specs.Maps.{found}
use Rattle.cc2_cargo.specs.Raw as cell
use Rattle.cc2_cargo.specs.Raw.{LayerOrigin, RawCell, Path, RawValue, in_member, member_at, raw_members_at, raw_at}
use Rattle.cc2_cargo.specs.RawReading.{AreRawRead, IsOne, IsRawRead, IsWrong, are_supported, array_set, cell_in, raw_cells_in, in_data, value_set, wrong_in, wrong_paths}
use Rattle.cc2_cargo.specs.declared.raw.Raw.{Raw}
use Rattle.cc2_cargo.specs.declared.raw.Raw.TheViews.{Table as raw_table}
use Rattle.cc2_cargo.proofs.Raws as raws

-- a table whose members are read is read
pub table_read : (from : LayerOrigin) (ms : Members) (m : BTreeMap (String Global) Raw) → AreRawRead from ms (raw_members_at m) → IsRawRead from (table ms) (raw_table m)
table_read from ms m h = (h.0, shown)
  where
    shown : (p : Path) → raw_at (raw_table m) p ≡ cell_in p from (table ms)
    shown [] = raws.raw_table m []
    shown (k ∷ p) = raws.raw_table m (k ∷ p) ∙ h.1 (k ∷ p)

-- a single value is read
pub string_read : (from : LayerOrigin) (d : Data) (s : List ℕ) (r : Raw) → d ≡ string s → IsOne (cell.single (value_set from.origin d)) r → IsRawRead from d r
string_read from d s r is h = subst (λ x. IsOne (cell.single (value_set from.origin x)) r → IsRawRead from x r) (sym is) one h
  where
    one : IsOne (cell.single (value_set from.origin (string s))) r → IsRawRead from (string s) r
    one g = (refl, shown g)
      where
        shown : IsOne (cell.single (value_set from.origin (string s))) r → (p : Path) → raw_at r p ≡ cell_in p from (string s)
        shown g [] = g []
        shown g (k ∷ p) = g (k ∷ p)

pub integer_read : (from : LayerOrigin) (d : Data) (z : ℤ) (r : Raw) → d ≡ integer z → IsOne (cell.single (value_set from.origin d)) r → IsRawRead from d r
integer_read from d z r is h = subst (λ x. IsOne (cell.single (value_set from.origin x)) r → IsRawRead from x r) (sym is) one h
  where
    one : IsOne (cell.single (value_set from.origin (integer z))) r → IsRawRead from (integer z) r
    one g = (refl, shown g)
      where
        shown : IsOne (cell.single (value_set from.origin (integer z))) r → (p : Path) → raw_at r p ≡ cell_in p from (integer z)
        shown g [] = g []
        shown g (k ∷ p) = g (k ∷ p)

pub boolean_read : (from : LayerOrigin) (d : Data) (b : Bool) (r : Raw) → d ≡ boolean b → IsOne (cell.single (value_set from.origin d)) r → IsRawRead from d r
boolean_read from d b r is h = subst (λ x. IsOne (cell.single (value_set from.origin x)) r → IsRawRead from x r) (sym is) one h
  where
    one : IsOne (cell.single (value_set from.origin (boolean b))) r → IsRawRead from (boolean b) r
    one g = (refl, shown g)
      where
        shown : IsOne (cell.single (value_set from.origin (boolean b))) r → (p : Path) → raw_at r p ≡ cell_in p from (boolean b)
        shown g [] = g []
        shown g (k ∷ p) = g (k ∷ p)

-- an array is read
pub array_read : (from : LayerOrigin) (d : Data) (ds : Items) (r : Raw) → d ≡ array ds → are_supported ds ≡ true
    → IsOne (array_set from ds) r → IsRawRead from d r
array_read from d ds r is supported h = subst (λ x. IsRawRead from x r) (sym is) (ap (λ b. if b then [] else [] ∷ []) supported, shown)
  where
    shown : (p : Path) → raw_at r p ≡ cell_in p from (array ds)
    shown [] = h []
    shown (k ∷ p) = h (k ∷ p)

module _ (from : LayerOrigin) where
  -- the entries are read, each at its key
  abbrev pub AreEntriesRead : List Entry → List (String Global × Raw) → Type 0
  AreEntriesRead [] [] = Unit {0}
  AreEntriesRead [] (v ∷ vs) = ⊥
  AreEntriesRead (e ∷ es) [] = ⊥
  AreEntriesRead (e ∷ es) (v ∷ vs) = (e.0 ≡ v.0) × IsRawRead from (view e.1) v.1 × AreEntriesRead es vs

  -- one entry more
  pub read_more : (es : List Entry) (vs : List (String Global × Raw)) (e : Entry) (v : String Global × Raw) → AreEntriesRead es vs → e.0 ≡ v.0
      → IsRawRead from (view e.1) v.1 → AreEntriesRead (es ++ e ∷ []) (vs ++ v ∷ [])
  read_more [] [] e v h named read = (named, read, tt)
  read_more [] (w ∷ vs) e v h named read = absurd h
  read_more (d ∷ es) [] e v h named read = absurd h
  read_more (d ∷ es) (w ∷ vs) e v h named read = (h.0, h.1, read_more es vs e v h.2 named read)

  same_keys : (es : List Entry) (vs : List (String Global × Raw)) → AreEntriesRead es vs → keys_of es ≡ keys_of vs
  same_keys [] [] h = refl
  same_keys [] (v ∷ vs) h = absurd h
  same_keys (e ∷ es) [] h = absurd h
  same_keys (e ∷ es) (v ∷ vs) h = ap (λ k. k ∷ keys_of es) h.0 ∙ ap (λ ks. v.0 ∷ ks) (same_keys es vs h.2)

  -- what is read is sorted as the entries are
  pub read_sorted : (es : List Entry) (vs : List (String Global × Raw)) → AreEntriesRead es vs → IsStrictlySortedBy string_cmp (keys_of es) → IsStrictlySortedBy string_cmp (keys_of vs)
  read_sorted es vs h sorted = subst (λ ks. IsStrictlySortedBy string_cmp ks) (same_keys es vs h) sorted

  none_wrong : (es : List Entry) (vs : List (String Global × Raw)) → AreEntriesRead es vs → wrong_in (members_view es) ≡ []
  none_wrong [] [] h = refl
  none_wrong [] (v ∷ vs) h = absurd h
  none_wrong (e ∷ es) [] h = absurd h
  none_wrong (e ∷ es) (v ∷ vs) h =
      ap (λ ps. map (λ p. string_bytes e.0 ∷ p) ps ++ wrong_in (members_view es)) h.1.0 ∙ none_wrong es vs h.2

  abbrev in_view : (p : Path) (o : Option TomlValue) → Option RawCell
  in_view p o = in_data (cell_in p from) (option_map view o)

  read_at : (b : Bool) (e : TomlValue) (v : Raw) (o : Option TomlValue) (r : Option Raw) (p : Path) → raw_at v p ≡ cell_in p from (view e)
      → member_at r p ≡ in_view p o → member_at (if b then Some v else r) p ≡ in_view p (if b then Some e else o)
  read_at true e v o r p h k = h
  read_at false e v o r p h k = k

  found_read : (es : List Entry) (vs : List (String Global × Raw)) → AreEntriesRead es vs → (k : List ℕ) (p : Path) → member_at (found k vs) p ≡ in_view p (found k es)
  found_read [] [] h k p = refl
  found_read [] (v ∷ vs) h k p = absurd h
  found_read (e ∷ es) [] h k p = absurd h
  found_read (e ∷ es) (v ∷ vs) h k p =
      ap (λ key. member_at (found k ((key, v.1) ∷ vs)) p) (sym h.0)
      ∙ read_at (is_at (λ x. slice_cmp nat_cmp k (string_bytes x)) e.0) e.1 v.1 (found k es) (found k vs) p (h.1.1 p) (found_read es vs h.2 k p)

  -- the table that is built of all members that were read
  pub all_read : (es : List Entry) (vs : List (String Global × Raw)) (o : Option (BTreeMap (String Global) Raw)) → AreEntriesRead es vs
      → IfSome o (λ m. (k : List ℕ) → get_by_text m k ≡ found k vs) → IfSome o (λ m. AreRawRead from (members_view es) (raw_members_at m))
  all_read es vs None h is = tt
  all_read es vs (Some m) h is = (none_wrong es vs h, shown)
    where
      shown : (p : Path) → raw_members_at m p ≡ raw_cells_in from (members_view es) p
      shown [] = refl
      shown (k ∷ p) = ap (λ r. member_at r p) (is k) ∙ found_read es vs h k p ∙ ap (in_data (cell_in p from)) (view-lookup k es)

contains_map : {A B : Type 0} (f : A → B) (xs : List A) (x : A) → Contains xs x → Contains (map f xs) (f x)
contains_map f [] x (k, less, is) = absurd (omega (arith, less))
contains_map f (y ∷ ys) x (zero, less, is) = (0, omega arith, ap f is)
contains_map f (y ∷ ys) x (suc k, less, is) =
    let (j, less', is') = contains_map f ys x (k, omega (arith, less), is) in
    (suc j, omega (arith, less'), is')

-- the error of a member, with its key in front
pub named_wrong : (key : List ℕ) (paths : List Path) (inner outer : Error) → IsBelow key (refusal_of inner) (refusal_of outer) → IsWrong paths inner
    → IsWrong (map (λ p. key ∷ p) paths) outer
named_wrong key paths inner outer (inl memory) h = inl memory
named_wrong key paths inner outer (inr is) (inl memory) = inl (is ∙ ap (λ c. record { cause = cause_below key c.cause; context = c.context }) memory)
named_wrong key paths inner outer (inr is) (inr (p, has, says)) =
    inr (key ∷ p, contains_map (λ q. key ∷ q) paths p has, is ∙ ap (λ c. record { cause = cause_below key c.cause; context = c.context }) says)

-- the error of a member is one of the members'
pub member_wrong : (done : List Entry) (e : Entry) (more : List Entry) (error : Error)
    → IsWrong (map (λ p. string_bytes e.0 ∷ p) (wrong_paths (view e.1))) error → IsWrong (wrong_in (members_view (done ++ e ∷ more))) error
member_wrong done e more error (inl memory) = inl memory
member_wrong [] e more error (inr h) = inr (h.0, Contains-append_left (map (λ p. string_bytes e.0 ∷ p) (wrong_paths (view e.1))) (wrong_in (members_view more)) h.0 h.1, h.2)
member_wrong (d ∷ done) e more error (inr h) =
    elim (member_wrong done e more error (inr h)) [
      | inl memory ↦ inl memory
      | inr g ↦
          inr (g.0, Contains-append_right (map (λ p. string_bytes d.0 ∷ p) (wrong_paths (view d.1))) (wrong_in (members_view (done ++ e ∷ more))) g.0 g.1, g.2)
    ]
