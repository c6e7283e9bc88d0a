-- What is written of the branches of a proper tree.
use Rattle.std.proofs.Common.{◌≡◌, ℕ, List, Option, Some, None, Bool, true, false, bytes_eq, true≢false, refl, sym, ap, ◌∙◌, subst}
use Rattle.std.specs.Prelude.{if◌then◌else◌, ◌&&◌}
use Rattle.std.proofs.lemmas.Slice.Eq.{bytes_eq-Decides}
use Rattle.serde_json.specs.Data.{Data, Members, no_members, put}
use Rattle.serde_json.specs.Find.{get_member}
use Rattle.serde_json.proofs.Views.{get_member-put, get_member-put_other}
use Rattle.cc2_value.specs.Cells.{Key, field, name, KeyPath, key_text}
use Rattle.cc2_json.specs.Trees.{Tree, nothing, Branches, no_branches, branch, is_key, tree_at, branch_at, lacks, fits, IsProper, AreProper}
use Rattle.cc2_json.specs.Json.{is_bare, put_told, tree_data, put_branches}
use Rattle.cc2_json.specs.Forms.{told_at}
use Rattle.cc2_json.proofs.Members.{put_ordered}
use Rattle.cc2_json.specs.Reader.{AreInOrder}
use Rattle.cc2_json.specs.declared.form.Form.{Form}

-- ---- keys

pub same_bytes : (k : List ℕ) → bytes_eq k k ≡ true
same_bytes k = (bytes_eq-Decides k k).1 refl

pub same_key : (l k : Key) → is_key l k ≡ true → l ≡ k
same_key (field a) (field b) h = ap field ((bytes_eq-Decides a b).0 h)
same_key (field a) (name b) h = absurd (true≢false (sym h))
same_key (name a) (field b) h = absurd (true≢false (sym h))
same_key (name a) (name b) h = ap name ((bytes_eq-Decides a b).0 h)

pub apart : (a q : List ℕ) → bytes_eq a q ≡ false → q ≡ a → ⊥
apart a q h same = true≢false (sym (same_bytes a) ∙ ap (bytes_eq a) (sym same) ∙ h)

both : (a b : Bool) → (a && b) ≡ true → (a ≡ true) × (b ≡ true)
both true b h = (refl, h)
both false b h = absurd (true≢false (sym h))

-- ---- the tree at a key

abbrev pub tree_of : Key → Branches → Tree
tree_of k no_branches = nothing
tree_of k (branch l t bs) = if is_key l k then t else tree_of k bs

pub by_key : (P : Tree → Type 0) (l k : Key) (t : Tree) (bs : Branches) → (is_key l k ≡ true → P t) → (is_key l k ≡ false → P (tree_of k bs)) → P (tree_of k (branch l t bs))
by_key P l k t bs here there = go (is_key l k) refl
  where
    go : (b : Bool) → is_key l k ≡ b → P (if b then t else tree_of k bs)
    go true is = here is
    go false is = there is

pub shows_of : (bs : Branches) (k : Key) (p : KeyPath) → branch_at bs k p ≡ tree_at (tree_of k bs) p
shows_of no_branches k p = refl
shows_of (branch l t bs) k p = go (is_key l k) (shows_of bs k p)
  where
    go : (b : Bool) → branch_at bs k p ≡ tree_at (tree_of k bs) p → (if b then tree_at t p else branch_at bs k p) ≡ tree_at (if b then t else tree_of k bs) p
    go true rest = refl
    go false rest = rest

pub lacking : (k : Key) (bs : Branches) → lacks k bs ≡ true → tree_of k bs ≡ nothing
lacking k no_branches h = refl
lacking k (branch l t bs) h = go (is_key l k) h (lacking k bs)
  where
    go : (b : Bool) → (if b then false else lacks k bs) ≡ true → (lacks k bs ≡ true → tree_of k bs ≡ nothing) → (if b then t else tree_of k bs) ≡ nothing
    go true h rest = absurd (true≢false (sym h))
    go false h rest = rest h

pub proper_of : (bs : Branches) → AreProper bs → (k : Key) → IsProper (tree_of k bs) × (fits k (tree_of k bs) ≡ true)
proper_of no_branches proper (field q) = (tt, refl)
proper_of no_branches proper (name q) = (tt, refl)
proper_of (branch l t bs) proper k =
    by_key (λ u. IsProper u × (fits k u ≡ true)) l k t bs
    (λ is. (proper.2, ap (λ m. fits m t) (sym (same_key l k is)) ∙ proper.1))
    (λ isnt. proper_of bs proper.3 k)

module _ (form : Form) where
  -- ---- what is written at a key

  -- what is written at a key of what is there
  abbrev pub told : Key → Option Data → Option Data
  told (field k) None = None
  told (field k) (Some d) = if is_bare d then None else Some (told_at form (field k) d)
  told (name k) o = o

  abbrev pub told_in : Branches → Key → Option Data
  told_in bs k = told k (tree_data form (tree_of k bs))

  abbrev pub put_some : List ℕ → Option Data → Members → Members
  put_some k None ms = ms
  put_some k (Some d) ms = put k d ms

  pub put_as : (k : Key) (o : Option Data) (ms : Members) → put_told form k o ms ≡ put_some (key_text k) (told k o) ms
  put_as (field k) None ms = refl
  put_as (field k) (Some d) ms = go (is_bare d)
    where
      go : (b : Bool) → (if b then ms else put k (told_at form (field k) d) ms) ≡ put_some k (if b then None else Some (told_at form (field k) d)) ms
      go true = refl
      go false = refl
  put_as (name k) None ms = refl
  put_as (name k) (Some d) ms = refl

  abbrev pub first_of : Option Data → Option Data → Option Data
  first_of (Some d) o = Some d
  first_of None o = o

  get_here : (k : List ℕ) (o : Option Data) (ms : Members) → get_member k (put_some k o ms) ≡ first_of o (get_member k ms)
  get_here k None ms = refl
  get_here k (Some d) ms = get_member-put k d ms

  get_other : (q k : List ℕ) (o : Option Data) (ms : Members) → (q ≡ k → ⊥) → get_member q (put_some k o ms) ≡ get_member q ms
  get_other q k None ms other = refl
  get_other q k (Some d) ms other = get_member-put_other q k d ms other

  none_told : (k : Key) → told k None ≡ None
  none_told (field q) = refl
  none_told (name q) = refl

  lacking_told : (k : Key) (bs : Branches) → lacks k bs ≡ true → told_in bs k ≡ None
  lacking_told k bs h = ap (λ t. told k (tree_data form t)) (lacking k bs h) ∙ none_told k

  first_of_none : (o : Option Data) → first_of o None ≡ o
  first_of_none None = refl
  first_of_none (Some d) = refl

  -- what is found among a proper tree's members: what is written at the field, or else at the name
  pub get_branches : (bs : Branches) → AreProper bs → (q : List ℕ)
      → get_member q (put_branches form bs no_members) ≡ first_of (told_in bs (field q)) (told_in bs (name q))
  get_branches no_branches proper q = refl
  get_branches (branch (field a) t bs) proper q =
      ap (get_member q) (put_as (field a) (tree_data form t) ms) ∙ go (bytes_eq a q) refl (get_branches bs proper.3 q)
    where
      ms : Members
      ms = put_branches form bs no_members

      go : (b : Bool) → bytes_eq a q ≡ b → get_member q ms ≡ first_of (told_in bs (field q)) (told_in bs (name q))
          → get_member q (put_some a (told (field a) (tree_data form t)) ms) ≡ first_of (told (field q) (tree_data form (if b then t else tree_of (field q) bs))) (told_in bs (name q))
      go true is rest =
          let same : a ≡ q = (bytes_eq-Decides a q).0 is in
          ap (λ r. get_member q (put_some r (told (field r) (tree_data form t)) ms)) same
          ∙ get_here q (told (field q) (tree_data form t)) ms
          ∙ ap (first_of (told (field q) (tree_data form t))) (rest ∙ ap (λ o. first_of o (told_in bs (name q))) (ap (λ r. told_in bs (field r)) (sym same) ∙ lacking_told (field a) bs proper.0))
      go false is rest = get_other q a (told (field a) (tree_data form t)) ms (apart a q is) ∙ rest
  get_branches (branch (name a) t bs) proper q =
      ap (get_member q) (put_as (name a) (tree_data form t) ms) ∙ go (bytes_eq a q) refl (get_branches bs proper.3 q)
    where
      ms : Members
      ms = put_branches form bs no_members

      go : (b : Bool) → bytes_eq a q ≡ b → get_member q ms ≡ first_of (told_in bs (field q)) (told_in bs (name q))
          → get_member q (put_some a (tree_data form t) ms) ≡ first_of (told_in bs (field q)) (tree_data form (if b then t else tree_of (name q) bs))
      go true is rest =
          let same : a ≡ q = (bytes_eq-Decides a q).0 is in
          let lone = both (lacks (name a) bs) (lacks (field a) bs) proper.0 in
          let no_field : told_in bs (field q) ≡ None = ap (λ r. told_in bs (field r)) (sym same) ∙ lacking_told (field a) bs lone.1 in
          let no_name : told_in bs (name q) ≡ None = ap (λ r. told_in bs (name r)) (sym same) ∙ lacking_told (name a) bs lone.0 in
          ap (λ r. get_member q (put_some r (tree_data form t) ms)) same
          ∙ get_here q (tree_data form t) ms
          ∙ ap (first_of (tree_data form t)) (rest ∙ ap (λ o. first_of o (told_in bs (name q))) no_field ∙ no_name)
          ∙ first_of_none (tree_data form t)
          ∙ sym (ap (λ o. first_of o (tree_data form t)) no_field)
      go false is rest = get_other q a (tree_data form t) ms (apart a q is) ∙ rest

  some_ordered : (k : List ℕ) (o : Option Data) (ms : Members) → AreInOrder ms → AreInOrder (put_some k o ms)
  some_ordered k None ms h = h
  some_ordered k (Some d) ms h = put_ordered k d ms h

  pub branches_ordered : (bs : Branches) → AreInOrder (put_branches form bs no_members)
  branches_ordered no_branches = tt
  branches_ordered (branch k t bs) =
      subst AreInOrder (sym (put_as k (tree_data form t) (put_branches form bs no_members)))
      (some_ordered (key_text k) (told k (tree_data form t)) (put_branches form bs no_members) (branches_ordered bs))
