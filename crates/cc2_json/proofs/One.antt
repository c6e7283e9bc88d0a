-- A look has one JSON.
use Rattle.std.proofs.Common.{◌≡◌, ℕ, List, [], ◌∷◌, ◌++◌, Option, Some, None, true, true≢false, refl, sym, ap, ◌∙◌, subst, inl, inr, ◌⊎◌}
use Rattle.std.proofs.lemmas.List.{append-nil}
use Rattle.std.specs.Ordering.{match_ordering}
use Rattle.std.specs.Prelude.{is_some, option_and_then}
use Rattle.std.specs.declared.cmp.Ordering.{Ordering}
use Rattle.std.specs.declared.cmp.Ordering.TheVariants.{Less, Equal, Greater}
use Rattle.serde_json.specs.Data.{Data, null, boolean, number, string, array, object, Members, no_members, member}
use Rattle.serde_json.specs.Find.{as_object, get, get_member}
use Rattle.cc2_value.specs.Visits.{Look}
use Rattle.cc2_json.specs.Reader.{data_at, texts, json_at, AreInOrder, IsObjectInOrder, IsExpected, IsJsonOfLook, HasOneJson}
use Rattle.cc2_json.specs.declared.form.Form.{Form}
use Rattle.cc2_json.proofs.Members.{cmp, none_some, some_same, same_found}
use Rattle.cc2_json.proofs.Read.{cases}

-- the same is in both, or an object in order is in both
abbrev IsAlike : Option Data → Option Data → Type 0
IsAlike o u = (o ≡ u) ⊎ (IsObjectInOrder o × IsObjectInOrder u)

flat : (d e : Data) → as_object d ≡ None → IsAlike (Some d) (Some e) → d ≡ e
flat d e h (inl same) = some_same d e same
flat d e h (inr both) = absurd (none_some both.0.0 (sym h ∙ ap as_object (some_same d (object both.0.0) both.0.1)))

whole : (o : Option Data) → option_and_then (data_at []) o ≡ o
whole None = refl
whole (Some d) = refl

members_same : (ms ns : Members) → object ms ≡ object ns → ms ≡ ns
members_same ms ns h = some_same ms ns (ap as_object h)

neither : (u : Option Data) → IsAlike None u → None ≡ u
neither u (inl same) = same
neither u (inr both) = absurd (none_some _ both.0.1)

some_other : (d : Data) (u : Option Data) → IsAlike (Some d) u → (e : Data) × (u ≡ Some e)
some_other d u (inl same) = (d, sym same)
some_other d u (inr both) = (object both.1.0, both.1.1)

-- objects whose members are alike, key by key
objects : (ms : Members) (e : Data) → ((q : List (List ℕ)) → IsAlike (data_at q (object ms)) (data_at q e))
    → ((q : List ℕ) (v : Data) → get_member q ms ≡ Some v → (u : Data) → ((r : List (List ℕ)) → IsAlike (data_at r v) (data_at r u)) → v ≡ u)
    → IsAlike (Some (object ms)) (Some e) → object ms ≡ e
objects ms e h each (inl same) = some_same (object ms) e same
objects ms e h each (inr both) =
    let ns = both.1.0 in
    let is : e ≡ object ns = some_same e (object ns) both.1.1 in
    let ordered : AreInOrder ms = subst AreInOrder (sym (members_same ms both.0.0 (some_same (object ms) (object both.0.0) both.0.1))) both.0.2 in
    let alike : (q : List (List ℕ)) → IsAlike (data_at q (object ms)) (data_at q (object ns)) = subst (λ x. (q : List (List ℕ)) → IsAlike (data_at q (object ms)) (data_at q x)) is h in
    ap object (same_found ms ns ordered both.1.2 (λ q. key ms ns alike each q)) ∙ sym is
  where
    key : (ms ns : Members) → ((q : List (List ℕ)) → IsAlike (data_at q (object ms)) (data_at q (object ns)))
        → ((q : List ℕ) (v : Data) → get_member q ms ≡ Some v → (u : Data) → ((r : List (List ℕ)) → IsAlike (data_at r v) (data_at r u)) → v ≡ u)
        → (q : List ℕ) → get_member q ms ≡ get_member q ns
    key ms ns alike each q =
        elim (cases (get_member q ms)) [
          | inl none ↦
              none ∙ neither (get_member q ns)
              (subst (λ o. IsAlike o (get_member q ns)) (whole (get_member q ms) ∙ none) (subst (IsAlike (data_at (q ∷ []) (object ms))) (whole (get_member q ns)) (alike (q ∷ []))))
          | inr some ↦
              let v = some.0 in
              let other = some_other v (get_member q ns)
              (subst (λ o. IsAlike o (get_member q ns)) (whole (get_member q ms) ∙ some.1) (subst (IsAlike (data_at (q ∷ []) (object ms))) (whole (get_member q ns)) (alike (q ∷ [])))) in
              some.1
              ∙ ap Some (each q v some.1 other.0
              (λ r. subst (λ o. IsAlike (data_at r v) (option_and_then (data_at r) o)) other.1
              (subst (λ o. IsAlike (option_and_then (data_at r) o) (option_and_then (data_at r) (get_member q ns))) some.1 (alike (q ∷ r)))))
              ∙ sym other.1
        ]

-- the first member, or one after it
here : (k : List ℕ) (d : Data) (ms : Members) (q : List ℕ) (v e : Data) → (d ≡ v → v ≡ e) → (get_member q ms ≡ Some v → v ≡ e)
    → get_member q (member k d ms) ≡ Some v → v ≡ e
here k d ms q v e same among is = go (cmp q k) is
  where
    go : (o : Ordering) → match_ordering o (get_member q ms) (Some d) (get_member q ms) ≡ Some v → v ≡ e
    go Less is = among is
    go Equal is = same (some_same d v is)
    go Greater is = among is

mutual
  extend : (d e : Data) → ((q : List (List ℕ)) → IsAlike (data_at q d) (data_at q e)) → d ≡ e
  extend null e h = flat null e refl (h [])
  extend (boolean b) e h = flat (boolean b) e refl (h [])
  extend (number n) e h = flat (number n) e refl (h [])
  extend (string s) e h = flat (string s) e refl (h [])
  extend (array ds) e h = flat (array ds) e refl (h [])
  extend (object ms) e h = objects ms e h (extend_in ms) (h [])

  extend_in : (ms : Members) (q : List ℕ) (v : Data) → get_member q ms ≡ Some v → (e : Data) → ((r : List (List ℕ)) → IsAlike (data_at r v) (data_at r e)) → v ≡ e
  extend_in no_members q v is e h = absurd (none_some v is)
  extend_in (member k d ms) q v is e h =
      here k d ms q v e
      (λ same. sym same ∙ extend d e (subst (λ x. (r : List (List ℕ)) → IsAlike (data_at r x) (data_at r e)) (sym same) h))
      (λ among. extend_in ms q v among e h) is

-- ---- two JSONs of one look

pub along : (p r : List (List ℕ)) (d : Data) → data_at (p ++ r) d ≡ option_and_then (data_at r) (data_at p d)
along [] r d = refl
along (x ∷ p) r d = go (along p r) (get x d)
  where
    go : ((e : Data) → data_at (p ++ r) e ≡ option_and_then (data_at r) (data_at p e)) → (o : Option Data)
        → option_and_then (data_at (p ++ r)) o ≡ option_and_then (data_at r) (option_and_then (data_at p) o)
    go rest None = refl
    go rest (Some e) = rest e

pub is_there : (o : Option Data) → is_some o ≡ true → (v : Data) × (o ≡ Some v)
is_there None h = absurd (true≢false (sym h))
is_there (Some v) h = (v, refl)

module _ (form : Form) (look : Look) (d e : Data) (x : IsJsonOfLook form look d) (y : IsJsonOfLook form look e) where
  alike_there : (q : List (List ℕ)) → IsExpected form look q → IsAlike (data_at q d) (data_at q e)
  alike_there q (p, r, stands, leads, inl table) =
      let at : texts p ≡ q = sym (append-nil (texts p)) ∙ ap (λ s. texts p ++ s) (sym table.0) ∙ leads in
      subst (λ s. IsAlike (data_at s d) (data_at s e)) at (inr (x.tables p stands table.1, y.tables p stands table.1))
  alike_there q (p, r, stands, leads, inr value) =
      let told = is_there (json_at form look p) value in
      inl (ap (λ s. data_at s d) (sym leads) ∙ along (texts p) r d ∙ ap (option_and_then (data_at r)) (x.values p told.0 stands told.1 ∙ sym (y.values p told.0 stands told.1))
      ∙ sym (along (texts p) r e) ∙ ap (λ s. data_at s e) leads)

  alike : (q : List (List ℕ)) → IsAlike (data_at q d) (data_at q e)
  alike q =
      elim (cases (data_at q d)) [
        | inr some ↦ alike_there q (x.nothing_else q some.0 some.1)
        | inl none ↦
            elim (cases (data_at q e)) [
              | inr some ↦ alike_there q (y.nothing_else q some.0 some.1)
              | inl none' ↦ inl (none ∙ sym none')
            ]
      ]

  pub same_data : d ≡ e
  same_data = extend d e alike

pub one : (form : Form) (look : Look) → HasOneJson form look
one form look d e x y = same_data form look d e x y
