-- The JSON of a table, from that of its members.
use Rattle.std.proofs.Common.{◌≡◌, ◌||◌, ℕ, Bool, true, false, cond, codes, List, [], ◌∷◌, ◌++◌, Option, Some, None, Result, Ok, Err, OnOk, String, BTreeMap, Global, Ordering, Less, Equal, Greater}
use Rattle.std.proofs.Common.{string_bytes, nat_cmp, is_eq, refl, sym, ap, ◌∙◌, subst}
use Rattle.std.specs.Cmp.Lexicographic.{slice_cmp}
use Rattle.std.specs.List.{AllByRecursion}
use Rattle.std.specs.List.Sorted.{IsStrictlySortedBy}
use Rattle.std.specs.Map.{keys_of}
use Rattle.std.specs.Ordering.{match_ordering}
use Rattle.std.specs.Prelude.{option_and_then}
use Rattle.std.specs.String.{string_cmp}
use Rattle.serde_json.specs.Data.{Data, object, Members, no_members, member, put}
use Rattle.serde_json.specs.Find.{get_member}
use Rattle.serde_json.specs.Written.{has_float, members_have_float}
use Rattle.cc2_value.specs.Cells.{field}
use Rattle.cc2_value.specs.Maps.{found}
use Rattle.cc2_json.specs.Reader.{AreInOrder, ComesBefore, IsObjectInOrder, data_at}
use Rattle.cc2_json.specs.declared.form.Form.{Form}
use Rattle.cc2_json.proofs.Floats.{neither, told_free}
use Rattle.cc2_json.proofs.Members.{equal_texts}
use Rattle.cc2_cargo.specs.Raw as cell
use Rattle.cc2_cargo.specs.Raw.{RawCell, Path, member_at, raw_members_at, raw_at}
use Rattle.cc2_cargo.specs.RawReading.{IsOne}
use Rattle.cc2_cargo.specs.declared.raw.Raw.{Raw}
use Rattle.cc2_cargo.specs.declared.raw.Raw.TheViews.{Table as table}
use Rattle.cc2_cargo.proofs.Raws.{raw_table}
use Rattle.cc2_cargo_answers.specs.RawJson.{IsJson, IsJsonPut, as_table, is_hidden, is_secret_key, raw_cell_json, told}
use Rattle.cc2_cargo_answers.proofs.Values.{ComesLast, IsAfter, after_those, push, put_last}

none_some : {A : Type 0} {a : A} → None ≡ Some a → ⊥
none_some h = cc

pub on_ok : {X E : Type 0} {P Q : Type 0} (r : Result X E) → (P → Q) → OnOk r P → OnOk r Q
on_ok (Ok x) f h = f h
on_ok (Err e) f h = tt

-- a table is the whole of its members
pub whole_table : (m : BTreeMap (String Global) Raw) (p : Path) → raw_at (table m) p ≡ as_table (raw_members_at m) p
whole_table m [] = raw_table m []
whole_table m (k ∷ p) = raw_table m (k ∷ p)

module _ (form : Form) where
  -- the JSON of a look, for another one that shows the same
  pub along : (secret : Bool) (l m : Path → Option RawCell) (d : Data) → ((p : Path) → m p ≡ l p) → IsJson form secret l d → IsJson form secret m d
  along secret l m d same j = record {
    values = λ p c v h is. j.values p c v (sym (same p) ∙ h) is;
    tables = λ p h. j.tables p (sym (same p) ∙ h);
    nothing_else = λ p k h none. j.nothing_else p k (sym (same p) ∙ h) (sym (same (p ++ k ∷ [])) ∙ none);
  }

  -- a single value or an array
  pub one_json : (secret : Bool) (c : RawCell) (r : Raw) (v : Data) → IsOne c r → raw_cell_json form c ≡ Some v → IsJson form secret (raw_at r) (told form secret v)
  one_json secret c r v one is = record { values = values; tables = tables; nothing_else = nothing_else }
    where
      same_value : (b : RawCell) (w : Data) → Some c ≡ Some b → raw_cell_json form b ≡ Some w → v ≡ w
      same_value b w h g = some_same (sym is ∙ ap (λ (x : Option RawCell). in_cell x) h ∙ g)
        where
          in_cell : Option RawCell → Option Data
          in_cell None = None
          in_cell (Some x) = raw_cell_json form x

          some_same : {x y : Data} → Some x ≡ Some y → x ≡ y
          some_same e = cc

      values : (p : Path) (b : RawCell) (w : Data) → raw_at r p ≡ Some b → raw_cell_json form b ≡ Some w
          → data_at p (told form secret v) ≡ Some (told form (is_hidden secret p) w)
      values [] b w h g = ap (λ x. Some (told form secret x)) (same_value b w (sym (one []) ∙ h) g)
      values (k ∷ p) b w h g = absurd (none_some (sym (one (k ∷ p)) ∙ h))

      no_table : Some c ≡ Some cell.table → ⊥
      no_table h = none_some (sym (in_cell h) ∙ is)
        where
          in_cell : Some c ≡ Some cell.table → raw_cell_json form c ≡ None
          in_cell e = ap (raw_cell_json form) (inner e)
            where
              inner : Some c ≡ Some cell.table → c ≡ cell.table
              inner f = cc

      tables : (p : Path) → raw_at r p ≡ Some cell.table → IsObjectInOrder (data_at p (told form secret v))
      tables [] h = absurd (no_table (sym (one []) ∙ h))
      tables (k ∷ p) h = absurd (none_some (sym (one (k ∷ p)) ∙ h))

      nothing_else : (p : Path) (k : List ℕ) → raw_at r p ≡ Some cell.table → raw_at r (p ++ k ∷ []) ≡ None → data_at (p ++ k ∷ []) (told form secret v) ≡ None
      nothing_else [] k h none = absurd (no_table (sym (one []) ∙ h))
      nothing_else (j ∷ p) k h none = absurd (none_some (sym (one (j ∷ p)) ∙ h))

  free_told : (secret : Bool) (v : Data) → has_float v ≡ false → has_float (told form secret v) ≡ false
  free_told true v free = told_free form (field (codes "token")) v free
  free_told false v free = free

  -- it is put at the key
  pub one_put : (key : List ℕ) (secret : Bool) (c : RawCell) (r : Raw) (v d : Data) (ms ns : Members) → IsOne c r → raw_cell_json form c ≡ Some v → d ≡ told form secret v
      → has_float v ≡ false → ns ≡ put key d ms → IsJsonPut form key secret (raw_at r) ms ns
  one_put key secret c r v d ms ns one is same free are = record {
    json = d;
    of = subst (λ x. IsJson form secret (raw_at r) x) (sym same) (one_json secret c r v one is);
    free = ap has_float same ∙ free_told secret v free;
    are = are;
  }

module _ (form : Form) (secret : Bool) where
  -- each member is the JSON of its entry, at its key
  abbrev pub AreJson : List (String Global × Raw) → Members → Type 0
  AreJson [] no_members = Unit {0}
  AreJson [] (member k d ms) = ⊥
  AreJson (e ∷ es) no_members = ⊥
  AreJson (e ∷ es) (member k d ms) = (string_bytes e.0 ≡ k) × IsJson form (secret || is_secret_key k) (raw_at e.1) d × (has_float d ≡ false) × AreJson es ms

  last_json : (k : List ℕ) (es : List (String Global × Raw)) (ms : Members) → AreJson es ms → IsAfter k es → ComesLast k ms
  last_json k [] no_members h after = tt
  last_json k [] (member l d ms) h after = absurd h
  last_json k (e ∷ es) no_members h after = absurd h
  last_json k (e ∷ es) (member l d ms) h after = (ap (slice_cmp nat_cmp k) (sym h.0) ∙ after.0, last_json k es ms h.3 after.1)

  push_json : (es : List (String Global × Raw)) (ms : Members) (e : String Global × Raw) (d : Data) → AreJson es ms → IsJson form (secret || is_secret_key (string_bytes e.0)) (raw_at e.1) d
      → has_float d ≡ false → AreJson (es ++ e ∷ []) (push ms (string_bytes e.0) d)
  push_json [] no_members e d h j free = (refl, j, free, tt)
  push_json [] (member l x ms) e d h j free = absurd h
  push_json (y ∷ es) no_members e d h j free = absurd h
  push_json (y ∷ es) (member l x ms) e d h j free = (h.0, h.1, h.2, push_json es ms e d h.3 j free)

  -- one entry more
  pub json_more : (done : List (String Global × Raw)) (e : String Global × Raw) (more : List (String Global × Raw)) (ms ns : Members)
      → IsStrictlySortedBy string_cmp (keys_of (done ++ e ∷ more)) → AreJson done ms → IsJsonPut form (string_bytes e.0) (secret || is_secret_key (string_bytes e.0)) (raw_at e.1) ms ns → AreJson (done ++ e ∷ []) ns
  json_more done e more ms ns sorted h put =
      subst (λ x. AreJson (done ++ e ∷ []) x)
      (sym (put.are ∙ put_last (string_bytes e.0) put.json ms (last_json (string_bytes e.0) done ms h (after_those done e more sorted))))
      (push_json done ms e put.json h put.of put.free)

  pub all_free : (es : List (String Global × Raw)) (ms : Members) → AreJson es ms → members_have_float ms ≡ false
  all_free [] no_members h = refl
  all_free [] (member k d ms) h = absurd h
  all_free (e ∷ es) no_members h = absurd h
  all_free (e ∷ es) (member k d ms) h = neither (has_float d) (members_have_float ms) h.2 (all_free es ms h.3)

  before_all : (k : String Global) (es : List (String Global × Raw)) (ms : Members) → AllByRecursion (λ y. string_cmp k y ≡ Less) (keys_of es) → AreJson es ms
      → ComesBefore (string_bytes k) ms
  before_all k [] no_members all h = tt
  before_all k [] (member l d ms) all h = absurd h
  before_all k (e ∷ es) no_members all h = absurd h
  before_all k (e ∷ es) (member l d ms) all h = (ap (slice_cmp nat_cmp (string_bytes k)) (sym h.0) ∙ all.0, before_all k es ms all.1 h.3)

  in_order : (es : List (String Global × Raw)) (ms : Members) → IsStrictlySortedBy string_cmp (keys_of es) → AreJson es ms → AreInOrder ms
  unfolding IsStrictlySortedBy
  in_order [] no_members sorted h = tt
  in_order [] (member l d ms) sorted h = absurd h
  in_order (e ∷ es) no_members sorted h = absurd h
  in_order (e ∷ es) (member l d ms) sorted h = (subst (λ k. ComesBefore k ms) h.0 (before_all e.0 es ms sorted.0 h.3), in_order es ms sorted.1 h.3)

  -- what is at a key among the entries, and among the members
  data IsFoundIn (es : List (String Global × Raw)) (ms : Members) (k : List ℕ) : Type 0 where
    nowhere : found k es ≡ None → get_member k ms ≡ None → IsFoundIn es ms k
    here : (r : Raw) (d : Data) → found k es ≡ Some r → get_member k ms ≡ Some d → IsJson form (secret || is_secret_key k) (raw_at r) d → IsFoundIn es ms k

  found_in : (es : List (String Global × Raw)) (ms : Members) (k : List ℕ) → AreJson es ms → IsFoundIn es ms k
  found_in [] no_members k h = nowhere refl refl
  found_in [] (member l d ms) k h = absurd h
  found_in (e ∷ es) no_members k h = absurd h
  found_in (e ∷ es) (member l d ms) k h = go (slice_cmp nat_cmp k l) refl (found_in es ms k h.3)
    where
      test : (o : Ordering) → slice_cmp nat_cmp k l ≡ o → found k (e ∷ es) ≡ cond (is_eq o) (Some e.1) (found k es)
      test o is = ap (λ x. cond (is_eq x) (Some e.1) (found k es)) (ap (slice_cmp nat_cmp k) h.0 ∙ is)

      got : (o : Ordering) → slice_cmp nat_cmp k l ≡ o → get_member k (member l d ms) ≡ match_ordering o (get_member k ms) (Some d) (get_member k ms)
      got o is = ap (λ x. match_ordering x (get_member k ms) (Some d) (get_member k ms)) is

      rest : found k (e ∷ es) ≡ found k es → get_member k (member l d ms) ≡ get_member k ms → IsFoundIn es ms k → IsFoundIn (e ∷ es) (member l d ms) k
      rest f g (nowhere none gone) = nowhere (f ∙ none) (g ∙ gone)
      rest f g (here r x at there j) = here r x (f ∙ at) (g ∙ there) j

      go : (o : Ordering) → slice_cmp nat_cmp k l ≡ o → IsFoundIn es ms k → IsFoundIn (e ∷ es) (member l d ms) k
      go Less is others = rest (test Less is) (got Less is) others
      go Equal is others = here e.1 d (test Equal is) (got Equal is) (subst (λ x. IsJson form (secret || is_secret_key x) (raw_at e.1) d) (sym (equal_texts k l is)) h.1)
      go Greater is others = rest (test Greater is) (got Greater is) others

  -- a table of such members
  pub table_is : (m : BTreeMap (String Global) Raw) (ms : Members) → IsStrictlySortedBy string_cmp (keys_of m.entries) → AreJson m.entries ms
      → IsJson form secret (as_table (raw_members_at m)) (object ms)
  table_is m ms sorted h = record { values = values; tables = tables; nothing_else = nothing_else }
    where
      look : Path → Option RawCell
      look = as_table (raw_members_at m)

      values : (p : Path) (c : RawCell) (v : Data) → look p ≡ Some c → raw_cell_json form c ≡ Some v
          → data_at p (object ms) ≡ Some (told form (is_hidden secret p) v)
      values [] c v is g = absurd (none_some (none_here is ∙ g))
        where
          none_here : Some cell.table ≡ Some c → None ≡ raw_cell_json form c
          none_here e = ap (raw_cell_json form) (inner e)
            where
              inner : Some cell.table ≡ Some c → cell.table ≡ c
              inner f = cc
      values (k ∷ p) c v is g = go (found_in m.entries ms k h)
        where
          go : IsFoundIn m.entries ms k → data_at (k ∷ p) (object ms) ≡ Some (told form (is_hidden secret (k ∷ p)) v)
          go (nowhere none gone) = absurd (none_some (sym (ap (λ o. member_at o p) none) ∙ is))
          go (here r d at there j) = ap (option_and_then (data_at p)) there ∙ j.values p c v (sym (ap (λ o. member_at o p) at) ∙ is) g

      tables : (p : Path) → look p ≡ Some cell.table → IsObjectInOrder (data_at p (object ms))
      tables [] is = (ms, refl, in_order m.entries ms sorted h)
      tables (k ∷ p) is = go (found_in m.entries ms k h)
        where
          go : IsFoundIn m.entries ms k → IsObjectInOrder (data_at (k ∷ p) (object ms))
          go (nowhere none gone) = absurd (none_some (sym (ap (λ o. member_at o p) none) ∙ is))
          go (here r d at there j) =
              subst IsObjectInOrder (sym (ap (option_and_then (data_at p)) there)) (j.tables p (sym (ap (λ o. member_at o p) at) ∙ is))

      nothing_else : (p : Path) (k : List ℕ) → look p ≡ Some cell.table → look (p ++ k ∷ []) ≡ None → data_at (p ++ k ∷ []) (object ms) ≡ None
      nothing_else [] k is none = go (found_in m.entries ms k h)
        where
          go : IsFoundIn m.entries ms k → data_at (k ∷ []) (object ms) ≡ None
          go (nowhere lacks gone) = ap (option_and_then (data_at [])) gone
          go (here r d at there j) = absurd (none_some (sym none ∙ ap (λ o. member_at o []) at))
      nothing_else (j ∷ p) k is none = go (found_in m.entries ms j h)
        where
          go : IsFoundIn m.entries ms j → data_at (j ∷ (p ++ k ∷ [])) (object ms) ≡ None
          go (nowhere lacks gone) = absurd (none_some (sym (ap (λ o. member_at o p) lacks) ∙ is))
          go (here r d at there json) =
              ap (option_and_then (data_at (p ++ k ∷ []))) there
              ∙ json.nothing_else p k (sym (ap (λ o. member_at o p) at) ∙ is) (sym (ap (λ o. member_at o (p ++ k ∷ [])) at) ∙ none)
