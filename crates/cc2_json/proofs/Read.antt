-- A proper tree's JSON is that of its look.
use Rattle.std.proofs.Common.{◌≡◌, ℕ, List, [], ◌∷◌, ◌++◌, Option, Some, None, Bool, true, false, bytes_eq, true≢false, refl, sym, ap, ◌∙◌, subst, inl, inr, ◌⊎◌}
use Rattle.std.specs.Prelude.{◌||◌, ◌&&◌, not, codes, if◌then◌else◌, is_some, option_and_then}
use Rattle.serde_json.specs.Data.{Data, object, Members, no_members, member}
use Rattle.serde_json.specs.Find.{get_member}
use Rattle.cc2_value.specs.Cells.{Key, field, name, KeyPath, Cell, key_text}
use Rattle.cc2_value.specs.Visits.{Look}
use Rattle.cc2_json.specs.Reader.{is_token, TokensAreValues, data_at, texts, end_key, below, cell_json, is_named_entry, json_in}
use Rattle.cc2_json.specs.Reader.{is_written_in, IsUnwritten, IsUnshadowed, IsTableIn, json_at, IsTableAt, IsObjectInOrder, IsExpected, ObjectsAreItsJson}
use Rattle.cc2_json.specs.Trees.{Tree, nothing, leaf, table, Branches, no_branches, branch, tree_at, branch_at, fits, IsProper, AreProper}
use Rattle.cc2_json.specs.Json.{tree_data, put_branches}
use Rattle.cc2_json.specs.Forms.{hides, redacted}
use Rattle.cc2_json.specs.declared.form.Form.{Form}
use Rattle.cc2_json.proofs.Leaves.{leaf_told, none_tells, own_told, unnamed}
use Rattle.cc2_json.proofs.Members.{none_some, some_same, first_found}
use Rattle.cc2_json.proofs.Settled.{silent_in}
use Rattle.cc2_json.proofs.Branches.{tree_of, by_key, same_key, shows_of, proper_of, told, told_in, first_of, get_branches, branches_ordered}

pub cases : {A : Type 0} (o : Option A) → (o ≡ None) ⊎ ((a : A) × (o ≡ Some a))
cases None = inl refl
cases (Some a) = inr (a, refl)

-- what is seen below a key of a table is what its tree shows
pub seen : (bs : Branches) (k : Key) → branch_at bs k ≡ tree_at (tree_of k bs)
seen bs k = λ i p. shows_of bs k p i

module _ (form : Form) where
  first_none : (a b : Option Data) → first_of form a b ≡ None → (a ≡ None) × (b ≡ None)
  first_none None b h = (refl, h)
  first_none (Some d) b h = absurd (none_some d (sym h))

  -- ---- what is written, and what is shown

  bare_members : (q : List ℕ) (ms : Members) → told form (field q) (Some (object ms)) ≡ None → ms ≡ no_members
  bare_members q no_members h = refl
  bare_members q (member k d ms) h = absurd (none_some _ (sym h))

  quiet_in : (bs : Branches) → AreProper bs → put_branches form bs no_members ≡ no_members → (l : Key) → told_in form bs l ≡ None
  quiet_in bs proper bare (field q) = (first_none _ _ (sym (get_branches form bs proper q) ∙ ap (get_member q) bare)).0
  quiet_in bs proper bare (name q) = (first_none _ _ (sym (get_branches form bs proper q) ∙ ap (get_member q) bare)).1

  -- where nothing is written nothing is shown
  hushed : (p : KeyPath) (t : Tree) → IsProper t → (k : Key) → told form k (tree_data form t) ≡ None → is_written_in form k (tree_at t) p ≡ false
  hushed p nothing proper k h = none_tells form (end_key k p)
  hushed [] (leaf c) proper k h = ap (λ o. is_some o || is_named_entry k (Some c)) (sym (leaf_told form k c proper) ∙ h) ∙ unnamed form k c proper
  hushed (l ∷ r) (leaf c) proper k h = none_tells form (end_key l r)
  hushed [] (table own bs) proper (field q) h = ap (λ o. is_some o || false) (own_told form (field q) own proper.0)
  hushed [] (table own bs) proper (name q) h = absurd (none_some _ (sym h))
  hushed (l ∷ r) (table own bs) proper (field q) h =
      ap (λ look. is_written_in form l look r) (seen bs l)
      ∙ hushed r (tree_of l bs) (proper_of bs proper.1 l).0 l (quiet_in bs proper.1 (bare_members q (put_branches form bs no_members) h) l)
  hushed (l ∷ r) (table own bs) proper (name q) h = absurd (none_some _ (sym h))

  abbrev Loud : Key → Look → Type 0
  Loud k look = (p : KeyPath) × (is_written_in form k look p ≡ true)

  -- one of two is there
  one_of : (a b : Option Data) (d : Data) → first_of form a b ≡ Some d → (a ≡ Some d) ⊎ ((a ≡ None) × (b ≡ Some d))
  one_of None b d h = inr (refl, h)
  one_of (Some e) b d h = inl h

  table_loud : (bs : Branches) → AreProper bs → ((l : Key) (v : Data) → told_in form bs l ≡ Some v → Loud l (λ p. branch_at bs l p))
      → (q : List ℕ) (d : Data) → get_member q (put_branches form bs no_members) ≡ Some d → (l : Key) × Loud l (λ p. branch_at bs l p)
  table_loud bs proper each q d h =
      elim (one_of (told_in form bs (field q)) (told_in form bs (name q)) d (sym (get_branches form bs proper q) ∙ h)) [
        | inl there ↦ (field q, each (field q) d there)
        | inr there ↦ (name q, each (name q) d there.1)
      ]

  -- a table that is written is a named entry, or has members
  named_or_full : (k : Key) (own : Option Cell) (ms : Members) (v : Data) → fits k (table own no_branches) ≡ true → told form k (Some (object ms)) ≡ Some v
      → (is_named_entry k own ≡ true) ⊎ ((q : List ℕ) × (d : Data) × (get_member q ms ≡ Some d))
  named_or_full (field q) own no_members v fit h = absurd (none_some v h)
  named_or_full (field q) own (member l d ms) v fit h = inr (l, d, first_found l d ms)
  named_or_full (name q) own ms v fit h = inl fit

  same_fit : (k : Key) (own : Option Cell) (bs : Branches) → fits k (table own bs) ≡ true → fits k (table own no_branches) ≡ true
  same_fit (field q) own bs h = h
  same_fit (name q) own bs h = h

  entry_tells : (k : Key) (o : Option Cell) → is_named_entry k o ≡ true → (is_some (cell_json form k o) || is_named_entry k o) ≡ true
  entry_tells k o h = go (is_some (cell_json form k o))
    where
      go : (b : Bool) → (b || is_named_entry k o) ≡ true
      go true = refl
      go false = h

  some_tells : (k : Key) (o : Option Cell) (v : Data) → cell_json form k o ≡ Some v → (is_some (cell_json form k o) || is_named_entry k o) ≡ true
  some_tells k o v h = ap (λ x. is_some x || is_named_entry k o) h

  mutual
    -- where something is written something is shown
    loud : (t : Tree) → IsProper t → (k : Key) → fits k t ≡ true → (v : Data) → told form k (tree_data form t) ≡ Some v → Loud k (tree_at t)
    loud nothing proper (field q) fit v h = absurd (none_some v h)
    loud nothing proper (name q) fit v h = absurd (none_some v h)
    loud (leaf c) proper k fit v h = ([], some_tells k (Some c) v (sym (leaf_told form k c proper) ∙ h))
    loud (table own bs) proper k fit v h =
        let each : (l : Key) (w : Data) → told_in form bs l ≡ Some w → Loud l (λ p. branch_at bs l p) =
        λ l w told. subst (Loud l) (sym (seen bs l)) (loud_in bs proper.1 l w told) in
        elim (named_or_full k own (put_branches form bs no_members) v (same_fit k own bs fit) h) [
          | inl entry ↦ ([], entry_tells k own entry)
          | inr full ↦ let found = table_loud bs proper.1 each full.0 full.1 full.2 in (found.0 ∷ found.1.0, found.1.1)
        ]

    loud_in : (bs : Branches) → AreProper bs → (k : Key) (v : Data) → told_in form bs k ≡ Some v → Loud k (tree_at (tree_of k bs))
    loud_in no_branches proper (field q) v h = absurd (none_some v h)
    loud_in no_branches proper (name q) v h = absurd (none_some v h)
    loud_in (branch l t bs) proper k v h =
        by_key (λ u. told form k (tree_data form u) ≡ Some v → Loud k (tree_at u)) l k t bs
        (λ is. loud t proper.2 k (ap (λ m. fits m t) (sym (same_key l k is)) ∙ proper.1) v)
        (λ isnt. loud_in bs proper.3 k v) h

  -- what shows something is written
  told_loud : (p : KeyPath) (t : Tree) → IsProper t → (k : Key) → is_written_in form k (tree_at t) p ≡ true → (v : Data) × (told form k (tree_data form t) ≡ Some v)
  told_loud p t proper k h =
      elim (cases (told form k (tree_data form t))) [
        | inl none ↦ absurd (true≢false (sym h ∙ hushed p t proper k none))
        | inr some ↦ some
      ]

  -- ---- one step down

  abbrev pub IsFront : Key → Look → Type 0
  IsFront (field q) look = Unit {0}
  IsFront (name q) look = IsUnwritten form (field q) (below look (field q))

  pub front : (look : Look) (l : Key) (r : KeyPath) → IsUnshadowed form look (l ∷ r) → IsFront l look × IsUnshadowed form (below look l) r
  front look (field q) r h = (tt, h)
  front look (name q) r h = (h.0, h.1)

  pub behind : (look : Look) (l : Key) (r : KeyPath) → IsFront l look → IsUnshadowed form (below look l) r → IsUnshadowed form look (l ∷ r)
  behind look (field q) r h g = g
  behind look (name q) r h g = (h, g)

  hidden_field : (bs : Branches) → AreProper bs → (q : List ℕ) → IsUnwritten form (field q) (λ p. branch_at bs (field q) p) → told_in form bs (field q) ≡ None
  hidden_field bs proper q silent =
      elim (cases (told_in form bs (field q))) [
        | inl none ↦ none
        | inr some ↦
            let heard = subst (Loud (field q)) (sym (seen bs (field q))) (loud_in bs proper (field q) some.0 some.1) in
            absurd (true≢false (sym heard.1 ∙ silent heard.0))
      ]

  -- what is written at a key that is there is found there
  pub step : (look : Look) (bs : Branches) → AreProper bs → ((k : Key) → branch_at bs k ≡ below look k) → (l : Key) (w : Data)
      → IsFront l look → told_in form bs l ≡ Some w → get_member (key_text l) (put_branches form bs no_members) ≡ Some w
  step look bs proper shows (field q) w stands h = get_branches form bs proper q ∙ ap (λ o. first_of form o (told_in form bs (name q))) h
  step look bs proper shows (name q) w stands h =
      get_branches form bs proper q
      ∙ ap (λ o. first_of form o (told_in form bs (name q))) (hidden_field bs proper q (subst (IsUnwritten form (field q)) (sym (shows (field q))) stands)) ∙ h

  -- nothing is below a token, here and further below
  abbrev pub IsFine : Key → Look → Type 0
  IsFine k look = ((l : Key) (r : KeyPath) → is_token k ≡ true → look (l ∷ r) ≡ None) × TokensAreValues look

  pub fine_below : (look : Look) → TokensAreValues look → (l : Key) → IsFine l (below look l)
  fine_below look values l = (λ m r is. values [] l m r is, λ p k m r is. values (l ∷ p) k m r is)

  unhidden : (k : Key) → (is_token k ≡ true → ⊥) → hides form k ≡ false
  unhidden (name q) h = refl
  unhidden (field q) h = go (not form.tokens) (bytes_eq q (codes "token")) h
    where
      go : (a b : Bool) → (b ≡ true → ⊥) → (a && b) ≡ false
      go a true h = absurd (h refl)
      go true false h = refl
      go false false h = refl

  -- a table with members isn't at a token
  no_token : (k : Key) (own : Option Cell) (bs : Branches) → AreProper bs → IsFine k (tree_at (table own bs)) → (q : List ℕ) (w : Data)
      → get_member q (put_branches form bs no_members) ≡ Some w → is_token k ≡ true → ⊥
  no_token k own bs proper fine q w h is =
      let quiet : (l : Key) → told_in form bs l ≡ None = λ l. silent_in form bs proper l (λ p. sym (shows_of bs l p) ∙ fine.0 l p is) in
      none_some w (sym (get_branches form bs proper q ∙ ap (λ o. first_of form o (told_in form bs (name q))) (quiet (field q)) ∙ quiet (name q)) ∙ h)

  pub whole : (k : Key) (own : Option Cell) (bs : Branches) → AreProper bs → IsFine k (tree_at (table own bs)) → (q : List ℕ) (w : Data)
      → get_member q (put_branches form bs no_members) ≡ Some w
      → told form k (Some (object (put_branches form bs no_members))) ≡ Some (object (put_branches form bs no_members))
  whole k own bs proper fine q w h = plain k (put_branches form bs no_members) (unhidden k (no_token k own bs proper fine q w h)) q w h
    where
      plain : (k : Key) (ms : Members) → hides form k ≡ false → (q : List ℕ) (w : Data) → get_member q ms ≡ Some w → told form k (Some (object ms)) ≡ Some (object ms)
      plain (field f) no_members open' q w h = absurd (none_some w h)
      plain (field f) (member l d ms) open' q w h = ap (λ b. Some (if b then redacted form.origins (object (member l d ms)) else object (member l d ms))) open'
      plain (name f) ms open' q w h = refl

  -- ---- values

  abbrev IsFoundBelow : Key → Tree → List (List ℕ) → Data → Type 0
  IsFoundBelow k t qs v = (w : Data) × (told form k (tree_data form t) ≡ Some w) × (data_at qs w ≡ Some v)

  values_in : (p : KeyPath) (t : Tree) → IsProper t → (k : Key) → IsFine k (tree_at t) → (v : Data) → IsUnshadowed form (tree_at t) p → json_in form k (tree_at t) p ≡ Some v
      → IsFoundBelow k t (texts p) v
  values_in p nothing proper k fit v stands h = absurd (none_some v h)
  values_in [] (leaf c) proper k fit v stands h = (v, leaf_told form k c proper ∙ h, refl)
  values_in (l ∷ r) (leaf c) proper k fit v stands h = absurd (none_some v h)
  values_in [] (table own bs) proper k fit v stands h = absurd (none_some v (sym (own_told form k own proper.0) ∙ h))
  values_in (l ∷ r) (table own bs) proper k fit v stands h =
      let both = front (tree_at (table own bs)) l r stands in
      let good = proper_of bs proper.1 l in
      let deep = fine_below (tree_at (table own bs)) fit.1 l in
      let found = values_in r (tree_of l bs) good.0 l (subst (IsFine l) (seen bs l) deep) v (subst (λ look. IsUnshadowed form look r) (seen bs l) both.1) (sym (ap (λ look. json_in form l look r) (seen bs l)) ∙ h) in
      let here = step (tree_at (table own bs)) bs proper.1 (λ k. refl) l found.0 both.0 found.1 in (
        object (put_branches form bs no_members),
        whole k own bs proper.1 fit (key_text l) found.0 here,
        ap (option_and_then (data_at (texts r))) here ∙ found.2,
      )

  -- ---- tables

  abbrev IsTableBelow : Key → Tree → List (List ℕ) → Type 0
  IsTableBelow k t qs = (w : Data) × (told form k (tree_data form t) ≡ Some w) × IsObjectInOrder (data_at qs w)

  named_told : (k : Key) (own : Option Cell) (ms : Members) → is_named_entry k own ≡ true → told form k (Some (object ms)) ≡ Some (object ms)
  named_told (field q) own ms h = absurd (true≢false (sym h))
  named_told (name q) own ms h = refl

  named_none : (k : Key) → is_named_entry k None ≡ true → ⊥
  named_none (field q) h = true≢false (sym h)
  named_none (name q) h = true≢false (sym h)

  -- a key below which something is shown is one of a member
  full : (bs : Branches) → AreProper bs → (l : Key) (r : KeyPath) → is_written_in form l (λ p. branch_at bs l p) r ≡ true
      → (w : Data) × (get_member (key_text l) (put_branches form bs no_members) ≡ Some w)
  full bs proper l r h =
      let heard = told_loud r (tree_of l bs) (proper_of bs proper l).0 l (sym (ap (λ look. is_written_in form l look r) (seen bs l)) ∙ h) in go l heard.0 heard.1
    where
      either : (a b : Option Data) (v : Data) → b ≡ Some v → (w : Data) × (first_of form a b ≡ Some w)
      either None b v h = (v, h)
      either (Some d) b v h = (d, refl)

      go : (m : Key) (v : Data) → told_in form bs m ≡ Some v → (w : Data) × (get_member (key_text m) (put_branches form bs no_members) ≡ Some w)
      go (field q) v h = (v, get_branches form bs proper q ∙ ap (λ o. first_of form o (told_in form bs (name q))) h)
      go (name q) v h = let one = either (told_in form bs (field q)) (told_in form bs (name q)) v h in (one.0, get_branches form bs proper q ∙ one.1)

  tables_in : (p : KeyPath) (t : Tree) → IsProper t → (k : Key) → IsFine k (tree_at t) → IsUnshadowed form (tree_at t) p → IsTableIn form k (tree_at t) p
      → IsTableBelow k t (texts p)
  tables_in p nothing proper k fit stands (inl h) = absurd (named_none (end_key k p) h)
  tables_in p nothing proper k fit stands (inr h) = absurd (true≢false (sym h.2 ∙ none_tells form (end_key k (p ++ h.0 ∷ h.1))))
  tables_in [] (leaf c) proper k fit stands (inl h) = absurd (true≢false (sym h ∙ unnamed form k c proper))
  tables_in [] (leaf c) proper k fit stands (inr h) = absurd (true≢false (sym h.2 ∙ none_tells form (end_key k (h.0 ∷ h.1))))
  tables_in (l ∷ r) (leaf c) proper k fit stands (inl h) = absurd (named_none (end_key l r) h)
  tables_in (l ∷ r) (leaf c) proper k fit stands (inr h) = absurd (true≢false (sym h.2 ∙ none_tells form (end_key l (r ++ h.0 ∷ h.1))))
  tables_in [] (table own bs) proper k fit stands (inl h) =
      let ms = put_branches form bs no_members in (object ms, named_told k own ms h, (ms, refl, branches_ordered form bs))
  tables_in [] (table own bs) proper k fit stands (inr h) =
      let ms = put_branches form bs no_members in
      let one = full bs proper.1 h.0 h.1 h.2 in (object ms, whole k own bs proper.1 fit (key_text h.0) one.0 one.1, (ms, refl, branches_ordered form bs))
  tables_in (l ∷ r) (table own bs) proper k fit stands h =
      let both = front (tree_at (table own bs)) l r stands in
      let good = proper_of bs proper.1 l in
      let deep = fine_below (tree_at (table own bs)) fit.1 l in
      let found = tables_in r (tree_of l bs) good.0 l (subst (IsFine l) (seen bs l) deep) (subst (λ look. IsUnshadowed form look r) (seen bs l) both.1) (subst (λ look. IsTableIn form l look r) (seen bs l) h) in
      let here = step (tree_at (table own bs)) bs proper.1 (λ k. refl) l found.0 both.0 found.1 in (
        object (put_branches form bs no_members),
        whole k own bs proper.1 fit (key_text l) found.0 here,
        subst IsObjectInOrder (sym (ap (option_and_then (data_at (texts r))) here)) found.2,
      )

  -- ---- nothing else

  abbrev IsAccountedIn : Key → Look → List (List ℕ) → Type 0
  IsAccountedIn k look q =
      (p : KeyPath) × (r : List (List ℕ)) × IsUnshadowed form look p × (texts p ++ r ≡ q) × (((r ≡ []) × IsTableIn form k look p) ⊎ (is_some (json_in form k look p) ≡ true))

  -- a table that is written and has a member is an object of its members; so is what is written of it
  told_members : (k : Key) (ms : Members) (w : Data) → told form k (Some (object ms)) ≡ Some w → (ms ≡ no_members) ⊎ ((q : List ℕ) × (d : Data) × (get_member q ms ≡ Some d))
  told_members k no_members w h = inl refl
  told_members k (member l d ms) w h = inr (l, d, first_found l d ms)

  bare_whole : (k : Key) (w : Data) → told form k (Some (object no_members)) ≡ Some w → w ≡ object no_members
  bare_whole (field f) w h = absurd (none_some w h)
  bare_whole (name f) w h = some_same w (object no_members) (sym h)

  pub table_whole : (k : Key) (own : Option Cell) (bs : Branches) (w : Data) → AreProper bs → IsFine k (tree_at (table own bs))
      → told form k (Some (object (put_branches form bs no_members))) ≡ Some w → w ≡ object (put_branches form bs no_members)
  table_whole k own bs w proper fine h =
      elim (told_members k (put_branches form bs no_members) w h) [
        | inl none ↦ bare_whole k w (sym (ap (λ ms. told form k (Some (object ms))) none) ∙ h) ∙ ap object (sym none)
        | inr some ↦ some_same w (object (put_branches form bs no_members)) (sym h ∙ whole k own bs proper fine some.0 some.1 some.2)
      ]

  silent_field : (bs : Branches) → AreProper bs → (q : List ℕ) → told_in form bs (field q) ≡ None → IsUnwritten form (field q) (branch_at bs (field q))
  silent_field bs proper q none p =
      ap (λ look. is_written_in form (field q) look p) (seen bs (field q)) ∙ hushed p (tree_of (field q) bs) (proper_of bs proper (field q)).0 (field q) none

  -- what is found among the members is in front of what is below it
  pub found_front : (look : Look) (bs : Branches) → AreProper bs → ((k : Key) → branch_at bs k ≡ below look k) → (q : List ℕ) (w : Data)
      → get_member q (put_branches form bs no_members) ≡ Some w → (l : Key) × (key_text l ≡ q) × IsFront l look × (told_in form bs l ≡ Some w)
  found_front look bs proper shows q w h =
      elim (one_of (told_in form bs (field q)) (told_in form bs (name q)) w (sym (get_branches form bs proper q) ∙ h)) [
        | inl there ↦ (field q, refl, tt, there)
        | inr there ↦ (name q, refl, subst (IsUnwritten form (field q)) (shows (field q)) (silent_field bs proper q there.0), there.1)
      ]

  no_data : (qs : List (List ℕ)) (o : Option Data) (v : Data) → option_and_then (data_at qs) o ≡ Some v → (w : Data) × (o ≡ Some w) × (data_at qs w ≡ Some v)
  no_data qs None v h = absurd (none_some v h)
  no_data qs (Some w) v h = (w, refl, h)

  pub none_at : (k : Key) (w : Data) → told form k None ≡ Some w → ⊥
  none_at (field q) w h = none_some w h
  none_at (name q) w h = none_some w h

  each_loud : (bs : Branches) → AreProper bs → (l : Key) (w : Data) → told_in form bs l ≡ Some w → Loud l (branch_at bs l)
  each_loud bs proper l w h = subst (Loud l) (sym (seen bs l)) (loud_in bs proper l w h)

  further : (k : Key) (look : Look) (l : Key) (q : List ℕ) (qs : List (List ℕ)) → key_text l ≡ q → IsFront l look → IsAccountedIn l (below look l) qs → IsAccountedIn k look (q ∷ qs)
  further k look l q qs same stands (p, r, standing, leads, what) =
      (l ∷ p, r, behind look l p stands standing, ap (λ x. x ∷ (texts p ++ r)) same ∙ ap (λ x. q ∷ x) leads, what)

  accounted_in : (q : List (List ℕ)) (t : Tree) → IsProper t → (k : Key) → fits k t ≡ true → IsFine k (tree_at t) → (w v : Data) → told form k (tree_data form t) ≡ Some w → data_at q w ≡ Some v
      → IsAccountedIn k (tree_at t) q
  accounted_in q nothing proper k fit fine w v told h = absurd (none_at k w told)
  accounted_in q (leaf c) proper k fit fine w v told h = ([], q, tt, refl, inr (ap is_some (sym (leaf_told form k c proper) ∙ told)))
  accounted_in [] (table own bs) proper k fit fine w v told h =
      elim (named_or_full k own (put_branches form bs no_members) w (same_fit k own bs fit) told) [
        | inl entry ↦ ([], [], tt, refl, inl (refl, inl entry))
        | inr some ↦ let found = table_loud bs proper.1 (each_loud bs proper.1) some.0 some.1 some.2 in ([], [], tt, refl, inl (refl, inr (found.0, found.1.0, found.1.1)))
      ]
  accounted_in (x ∷ xs) (table own bs) proper k fit fine w v told h =
      let ms = put_branches form bs no_members in
      let among = no_data xs (get_member x ms) v (sym (ap (data_at (x ∷ xs)) (table_whole k own bs w proper.1 fine told)) ∙ h) in
      let front = found_front (tree_at (table own bs)) bs proper.1 (λ l. refl) x among.0 among.1 in
      let good = proper_of bs proper.1 front.0 in
      let deep = subst (IsFine front.0) (seen bs front.0) (fine_below (tree_at (table own bs)) fine.1 front.0) in
      further k (tree_at (table own bs)) front.0 x xs front.1 front.2
      (subst (λ look. IsAccountedIn front.0 look xs) (sym (seen bs front.0)) (accounted_in xs (tree_of front.0 bs) good.0 front.0 good.1 deep among.0 v front.3 among.2))

  -- ---- the whole

  module _ (look : Look) (bs : Branches) (proper : AreProper bs) (shows : (k : Key) → branch_at bs k ≡ below look k) (values : TokensAreValues look) where
    same_look : (l : Key) → below look l ≡ tree_at (tree_of l bs)
    same_look l = sym (shows l) ∙ seen bs l

    outward : (l : Key) (q : List ℕ) (qs : List (List ℕ)) → key_text l ≡ q → IsFront l look → IsAccountedIn l (below look l) qs → IsExpected form look (q ∷ qs)
    outward l q qs same stands (p, r, standing, leads, what) =
        (l ∷ p, r, behind look l p stands standing, ap (λ x. x ∷ (texts p ++ r)) same ∙ ap (λ x. q ∷ x) leads, what)

    root_values : (p : KeyPath) (v : Data) → IsUnshadowed form look p → json_at form look p ≡ Some v → data_at (texts p) (object (put_branches form bs no_members)) ≡ Some v
    root_values [] v stands h = absurd (none_some v h)
    root_values (l ∷ r) v stands h =
        let both = front look l r stands in
        let good = proper_of bs proper l in
        let deep = subst (IsFine l) (same_look l) (fine_below look values l) in
        let found = values_in r (tree_of l bs) good.0 l deep v (subst (λ x. IsUnshadowed form x r) (same_look l) both.1) (sym (ap (λ x. json_in form l x r) (same_look l)) ∙ h) in
        ap (option_and_then (data_at (texts r))) (step look bs proper shows l found.0 both.0 found.1) ∙ found.2

    root_tables : (p : KeyPath) → IsUnshadowed form look p → IsTableAt form look p → IsObjectInOrder (data_at (texts p) (object (put_branches form bs no_members)))
    root_tables [] stands h = (put_branches form bs no_members, refl, branches_ordered form bs)
    root_tables (l ∷ r) stands h =
        let both = front look l r stands in
        let good = proper_of bs proper l in
        let deep = subst (IsFine l) (same_look l) (fine_below look values l) in
        let found = tables_in r (tree_of l bs) good.0 l deep (subst (λ x. IsUnshadowed form x r) (same_look l) both.1) (subst (λ x. IsTableIn form l x r) (same_look l) h) in
        subst IsObjectInOrder (sym (ap (option_and_then (data_at (texts r))) (step look bs proper shows l found.0 both.0 found.1))) found.2

    root_accounted : (q : List (List ℕ)) (v : Data) → data_at q (object (put_branches form bs no_members)) ≡ Some v → IsExpected form look q
    root_accounted [] v h = ([], [], tt, refl, inl (refl, tt))
    root_accounted (x ∷ xs) v h =
        let among = no_data xs (get_member x (put_branches form bs no_members)) v h in
        let first = found_front look bs proper shows x among.0 among.1 in
        let good = proper_of bs proper first.0 in
        let deep = subst (IsFine first.0) (same_look first.0) (fine_below look values first.0) in
        let rest = subst (λ y. IsAccountedIn first.0 y xs) (sym (same_look first.0)) (accounted_in xs (tree_of first.0 bs) good.0 first.0 good.1 deep among.0 v first.3 among.2) in
        outward first.0 x xs first.1 first.2 rest

  pub read : (look : Look) → ObjectsAreItsJson form look
  read look values d x =
      let shows : (k : Key) → branch_at x.branches k ≡ below look k = λ k. λ i p. x.shows k p i in
      record {
        values = λ p v stands h. ap (data_at (texts p)) x.is ∙ root_values look x.branches x.proper shows values p v stands h;
        tables = λ p stands h. subst (λ y. IsObjectInOrder (data_at (texts p) y)) (sym x.is) (root_tables look x.branches x.proper shows values p stands h);
        nothing_else = λ q v h. root_accounted look x.branches x.proper shows values q v (sym (ap (data_at q) x.is) ∙ h);
      }
