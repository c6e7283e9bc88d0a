-- From what a walk takes field by field to the whole table.
use Rattle.std.proofs.Common.{◌≡◌, ℕ, Bool, true, false, not, ◌||◌, cond, List, [], ◌∷◌, ◌++◌, Option, Some, None, refl, sym, ap, subst, ◌∙◌, inl, inr}
use Rattle.std.proofs.lemmas.Bool.{and_parts}
use Rattle.std.proofs.lemmas.List.Elements.{Contains-append_left, Contains-append_right}
use Rattle.std.specs.List.{list_any}
use Rattle.std.specs.Str.{bytes_eq}
use Rattle.toml.specs.Data.{Members, get_member}
use Rattle.cc2_error.specs.declared.error.Error.{Error}
use Rattle.cc2_value.specs.Cells.{field, Origin}
use Rattle.cc2_value.specs.Reading.{fields_faults}
use Rattle.cc2_value.specs.Rows.{are_distinct, keys_of_fields}
use Rattle.cc2_value.specs.Shown.{Field}
use Rattle.cc2_value.specs.Taking.{AllTaken, GoesOn, IsWithout, TakesField}
use Rattle.cc2_value.specs.Visits.{FieldsDecoded}
use Rattle.cc2_value.specs.Ways.{Flaw, cells_in, faults_in, below, IsDecoded, IsFaultBehind}

-- the fields' keys have the same members in both
abbrev pub AreSame : {A : Type 0} → List (Field A) → Members → Members → Type 0
AreSame [] ms ns = Unit {0}
AreSame (f ∷ fs) ms ns = (get_member f.key ms ≡ get_member f.key ns) × AreSame fs ms ns

pub decoded_same : {A : Type 0} (fs : List (Field A)) (origin : Option Origin) (ms ns : Members) (a : A) → AreSame fs ms ns → FieldsDecoded fs origin ms a → FieldsDecoded fs origin ns a
decoded_same [] origin ms ns a same h = tt
decoded_same (f ∷ fs) origin ms ns a same h =
    (subst (λ o. IsDecoded f.cells (cells_in f.way origin o) (faults_in f.way o) a) same.0 h.0, decoded_same fs origin ms ns a same.1 h.1)

pub faults_same : {A : Type 0} (fs : List (Field A)) (ms ns : Members) → AreSame fs ms ns → fields_faults fs ms ≡ fields_faults fs ns
faults_same [] ms ns same = refl
faults_same (f ∷ fs) ms ns same = λ i. below (field f.key) (faults_in f.way (same.0 i)) ++ faults_same fs ms ns same.1 i

none_equal : (b c : Bool) → not (b || c) ≡ true → (b ≡ false) × (not c ≡ true)
none_equal true c h = cc
none_equal false c h = (refl, h)

-- where a key is none of the fields', they have the same members without it
others_same : {A : Type 0} (key : List ℕ) (fs : List (Field A)) (ms ns : Members) → not (list_any (bytes_eq key) (keys_of_fields fs)) ≡ true → IsWithout key ms ns → AreSame fs ns ms
others_same key [] ms ns apart without = tt
others_same key (f ∷ fs) ms ns apart without =
    let (here, there) = none_equal (bytes_eq key f.key) (list_any (bytes_eq key) (keys_of_fields fs)) apart in
    (without f.key ∙ ap (λ b. cond b None (get_member f.key ms)) here, others_same key fs ms ns there without)

behind_left : (xs ys : List Flaw) (e : Error) → IsFaultBehind [] xs e → IsFaultBehind [] (xs ++ ys) e
behind_left xs ys e (inl m) = inl m
behind_left xs ys e (inr h) = inr (h.0, Contains-append_left xs ys h.0 h.1, h.2)

behind_right : (xs ys : List Flaw) (e : Error) → IsFaultBehind [] ys e → IsFaultBehind [] (xs ++ ys) e
behind_right xs ys e (inl m) = inl m
behind_right xs ys e (inr h) = inr (h.0, Contains-append_right xs ys h.0 h.1, h.2)

module _ {A V : Type 0} (left : V → Members) (refused : V → Option Error) (origin : V → Option Origin) where
  -- the field of v is read, and u has the others; or a fault of it refuses the table
  abbrev IsRead : Field A → V → A → V → Type 0
  IsRead f v a u = IsDecoded (λ l. l) (cells_in f.way (origin v) (get_member f.key (left v))) (faults_in f.way (get_member f.key (left v))) (f.cells a) × IsWithout f.key (left v) (left u)

  abbrev IsUnread : Field A → V → Error → Type 0
  IsUnread f v e = IsFaultBehind [] (below (field f.key) (faults_in f.way (get_member f.key (left v)))) e

  -- a refusal stays
  given_up : (fs : List (Field A)) (v w : V) (a : A) (e : Error) → AllTaken fs (TakesField left refused origin) v a w → refused v ≡ Some e → refused w ≡ Some e
  given_up [] v w a e h is = ap refused (sym h) ∙ is
  given_up (f ∷ fs) v w a e (u, one, others) is =
      given_up fs u w a e others (subst (λ o. GoesOn o (refused u) (IsRead f v a u) (IsUnread f v)) is one.taken.0)

  abbrev Ends : List (Field A) → V → A → Option Error → Type 0
  Ends fs v a o = GoesOn None o (FieldsDecoded fs (origin v) (left v) a) (IsFaultBehind [] (fields_faults fs (left v)))

  -- the table is read, or one of its faults refuses it
  pub fields_taken : (fs : List (Field A)) (v w : V) (a : A) → are_distinct (keys_of_fields fs) ≡ true → AllTaken fs (TakesField left refused origin) v a w → refused v ≡ None → Ends fs v a (refused w)
  fields_taken [] v w a distinct h none = subst (λ o. Ends [] v a o) (sym none ∙ ap refused h) tt
  fields_taken (f ∷ fs) v w a distinct (u, one, others) none =
      let (apart, more) = and_parts (not (list_any (bytes_eq f.key) (keys_of_fields fs))) (are_distinct (keys_of_fields fs)) distinct in
      step (refused u) refl (subst (λ o. GoesOn o (refused u) (IsRead f v a u) (IsUnread f v)) none one.taken.0)
      apart (λ is. fields_taken fs u w a more others is)
    where
      ends : (o : Option Error) → AreSame fs (left u) (left v) → IsDecoded f.cells (cells_in f.way (origin v) (get_member f.key (left v))) (faults_in f.way (get_member f.key (left v))) a
          → Ends fs u a o → Ends (f ∷ fs) v a o
      ends None same read rest = (read, decoded_same fs (origin v) (left u) (left v) a same (subst (λ at. FieldsDecoded fs at (left u) a) one.taken.1 rest))
      ends (Some e) same read rest =
          behind_right (below (field f.key) (faults_in f.way (get_member f.key (left v)))) (fields_faults fs (left v)) e
          (subst (λ flaws. IsFaultBehind [] flaws e) (faults_same fs (left u) (left v) same) rest)

      step : (o : Option Error) → refused u ≡ o → GoesOn None o (IsRead f v a u) (IsUnread f v)
          → not (list_any (bytes_eq f.key) (keys_of_fields fs)) ≡ true → (refused u ≡ None → Ends fs u a (refused w)) → Ends (f ∷ fs) v a (refused w)
      step None is read apart next = ends (refused w) (others_same f.key fs (left v) (left u) apart read.1) read.0 (next is)
      step (Some e) is fault apart next =
          subst (λ o. Ends (f ∷ fs) v a o) (sym (given_up fs u w a e others is))
          (behind_left (below (field f.key) (faults_in f.way (get_member f.key (left v)))) (fields_faults fs (left v)) e fault)
