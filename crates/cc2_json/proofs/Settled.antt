-- The objects of one look are one.
use Rattle.std.proofs.Common.{◌≡◌, [], ◌∷◌, Option, Some, None, true, false, true≢false, refl, sym, ap, ◌∙◌}
use Rattle.serde_json.specs.Data.{object, no_members}
use Rattle.cc2_value.specs.Cells.{Key, field, name, KeyPath, Cell, is_entry}
use Rattle.cc2_value.specs.Visits.{Look}
use Rattle.cc2_json.specs.Trees.{Tree, nothing, leaf, table, Branches, no_branches, branch, tree_at, is_entry_at, is_place, fits, IsProper, AreProper}
use Rattle.cc2_json.specs.Forms.{cell_data}
use Rattle.cc2_json.specs.Json.{put_told, HasOneField, tree_data, put_branches, HasOneObject}
use Rattle.cc2_json.specs.declared.form.Form.{Form}
use Rattle.cc2_json.proofs.Members.{none_some, some_same, none_found, same_found}
use Rattle.cc2_json.proofs.Branches.{put_as, put_some, tree_of, by_key, same_key, shows_of, proper_of, told, told_in, first_of, get_branches, branches_ordered}

module _ (form : Form) where
  -- members that show nothing aren't written at a key where that fits
  bare_told : (k : Key) (own : Option Cell) (bs : Branches) → own ≡ None → put_branches form bs no_members ≡ no_members → fits k (table own bs) ≡ true
      → told form k (tree_data form (table own bs)) ≡ None
  bare_told (field q) own bs none bare fit = ap (λ ms. told form (field q) (Some (object ms))) bare
  bare_told (name q) own bs none bare fit = absurd (true≢false (sym fit ∙ ap is_entry_at none))

  mutual
    -- what shows nothing isn't written
    pub silent : (t : Tree) → IsProper t → (k : Key) → fits k t ≡ true → ((p : KeyPath) → tree_at t p ≡ None) → told form k (tree_data form t) ≡ None
    silent nothing proper (field q) fit h = refl
    silent nothing proper (name q) fit h = refl
    silent (leaf c) proper k fit h = absurd (none_some c (sym (h [])))
    silent (table own bs) proper k fit h =
        let quiet : (l : Key) → told_in form bs l ≡ None = λ l. silent_in bs proper.1 l (λ p. sym (shows_of bs l p) ∙ h (l ∷ p)) in
        bare_told k own bs (h [])
        (none_found (put_branches form bs no_members)
        (λ q. get_branches form bs proper.1 q ∙ ap (λ o. first_of form o (told_in form bs (name q))) (quiet (field q)) ∙ quiet (name q)))
        fit

    pub silent_in : (bs : Branches) → AreProper bs → (k : Key) → ((p : KeyPath) → tree_at (tree_of k bs) p ≡ None) → told_in form bs k ≡ None
    silent_in no_branches proper (field q) h = refl
    silent_in no_branches proper (name q) h = refl
    silent_in (branch l t bs) proper k h =
        by_key (λ u. ((p : KeyPath) → tree_at u p ≡ None) → told form k (tree_data form u) ≡ None) l k t bs
        (λ is. silent t proper.2 k (ap (λ m. fits m t) (sym (same_key l k is)) ∙ proper.1))
        (λ isnt. silent_in bs proper.3 k) h

  entry_leaf : (own : Option Cell) (c : Cell) → own ≡ Some c → is_place own ≡ true → is_entry c ≡ false → ⊥
  entry_leaf None c e place apart = none_some c e
  entry_leaf (Some d) c e place apart = true≢false (sym place ∙ ap is_entry (some_same d c e) ∙ apart)

  -- members in which the same is written at each key
  found : (bs : Branches) → AreProper bs → (bs' : Branches) → AreProper bs' → ((l : Key) → told_in form bs l ≡ told_in form bs' l)
      → put_branches form bs no_members ≡ put_branches form bs' no_members
  found bs a bs' b at =
      same_found (put_branches form bs no_members) (put_branches form bs' no_members) (branches_ordered form bs) (branches_ordered form bs')
      (λ q. get_branches form bs a q ∙ ap (λ o. first_of form o (told_in form bs (name q))) (at (field q))
      ∙ ap (first_of form (told_in form bs' (field q))) (at (name q)) ∙ sym (get_branches form bs' b q))

  mutual
    -- trees that show the same are written as the same
    pub same : (t : Tree) → IsProper t → (u : Tree) → IsProper u → (k : Key) → fits k t ≡ true → fits k u ≡ true
        → ((p : KeyPath) → tree_at t p ≡ tree_at u p) → told form k (tree_data form t) ≡ told form k (tree_data form u)
    same nothing a u b k f g h = silent nothing a k f (λ p. refl) ∙ sym (silent u b k g (λ p. sym (h p)))
    same (leaf c) a nothing b k f g h = absurd (none_some c (sym (h [])))
    same (leaf c) a (leaf d) b k f g h = ap (λ o. told form k (cell_data form.origins o)) (some_same c d (h []))
    same (leaf c) a (table own bs) b k f g h = absurd (entry_leaf own c (sym (h [])) b.0 a)
    same (table own bs) a nothing b k f g h = silent (table own bs) a k f h ∙ sym (silent nothing b k g (λ p. refl))
    same (table own bs) a (leaf c) b k f g h = absurd (entry_leaf own c (h []) a.0 b)
    same (table own bs) a (table own' bs') b k f g h =
        let at : (l : Key) → told_in form bs l ≡ told_in form bs' l =
        λ l. same_in bs a.1 l (tree_of l bs') (proper_of bs' b.1 l).0 (proper_of bs' b.1 l).1
        (λ p. sym (shows_of bs l p) ∙ h (l ∷ p) ∙ shows_of bs' l p) in
        ap (λ ms. told form k (Some (object ms))) (found bs a.1 bs' b.1 at)

    same_in : (bs : Branches) → AreProper bs → (k : Key) (u : Tree) → IsProper u → fits k u ≡ true
        → ((p : KeyPath) → tree_at (tree_of k bs) p ≡ tree_at u p) → told_in form bs k ≡ told form k (tree_data form u)
    same_in no_branches a (field q) u b g h = sym (silent u b (field q) g (λ p. sym (h p)))
    same_in no_branches a (name q) u b g h = sym (silent u b (name q) g (λ p. sym (h p)))
    same_in (branch l t bs) a k u b g h =
        by_key (λ v. ((p : KeyPath) → tree_at v p ≡ tree_at u p) → told form k (tree_data form v) ≡ told form k (tree_data form u)) l k t bs
        (λ is. same t a.2 u b k (ap (λ m. fits m t) (sym (same_key l k is)) ∙ a.1) g)
        (λ isnt. same_in bs a.3 k u b g) h

pub settled : (form : Form) (look : Look) → HasOneObject form look
settled form look d e x y =
    let at : (l : Key) → told_in form x.branches l ≡ told_in form y.branches l =
    λ l. same_in form x.branches x.proper l (tree_of l y.branches) (proper_of y.branches y.proper l).0 (proper_of y.branches y.proper l).1
    (λ p. sym (shows_of x.branches l p) ∙ x.shows l p ∙ sym (y.shows l p) ∙ shows_of y.branches l p) in
    x.is ∙ ap object (found form x.branches x.proper y.branches y.proper at) ∙ sym y.is

pub one_field : (form : Form) (look : Look) → HasOneField form look
one_field form look a b k ms x y =
    ap (λ o. put_told form (field k) o ms) x.is
    ∙ put_as form (field k) (tree_data form x.tree) ms
    ∙ ap (λ o. put_some form k o ms) (same form x.tree x.of.proper y.tree y.of.proper (field k) refl refl (λ p. x.of.shows p ∙ sym (y.of.shows p)))
    ∙ sym (put_as form (field k) (tree_data form y.tree) ms)
    ∙ ap (λ o. put_told form (field k) o ms) (sym y.is)
