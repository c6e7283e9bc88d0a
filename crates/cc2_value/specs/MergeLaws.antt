-- Every grouping of a list gives its pointwise map, or every grouping is refused.
use Rattle.std.specs.Prelude.{◌≡◌, ℕ, take, drop, List, [], ◌∷◌, ◌++◌, Option, Some, None, Result, Ok, Err, refl}
use Rattle.std.proofs.Common.{sym, ap, ◌∙◌}
use Rattle.std.proofs.lemmas.List.{take-append-drop}
use Rattle.std.proofs.lemmas.List.Elements.{filter_map-append}
use Rattle.cc2_error.specs.declared.error.Shape.{Shape}
use Rattle.cc2_value.specs.Cells.{Cell, KeyPath, joined, present, cells_at, IsPointwise, IsMixed}
use Rattle.cc2_value.specs.JoinedLaws.{joined-append, joined_alone, mixed_before, mixed_behind}

-- c is what some grouping of the merges of xs gives
pub data Grouping {A : Type 0} (look : A → KeyPath → Option Cell) : List A → A → Type 0 where
  one : (x : A) → Grouping look (x ∷ []) x
  two : (xs ys : List A) (f g c : A) → Grouping look xs f → Grouping look ys g → IsPointwise look (f ∷ g ∷ []) c → Grouping look (xs ++ ys) c

-- some grouping of the merges of xs is refused
pub data RefusedGrouping {A : Type 0} (look : A → KeyPath → Option Cell) : List A → Type 0 where
  here : (xs ys : List A) (f g : A) → Grouping look xs f → Grouping look ys g → IsMixed look (f ∷ g ∷ []) → RefusedGrouping look (xs ++ ys)
  before : (xs ys : List A) → RefusedGrouping look xs → RefusedGrouping look (xs ++ ys)
  behind : (xs ys : List A) → RefusedGrouping look ys → RefusedGrouping look (xs ++ ys)

-- every grouping of the merges of xs gives the cells of c, and none is refused
abbrev pub AllGive : {A : Type 0} → (A → KeyPath → Option Cell) → List A → A → Type 0
AllGive {A} look xs c = ((d : A) → Grouping look xs d → (p : KeyPath) → look d p ≡ look c p) × ¬ (RefusedGrouping look xs)

-- no grouping of the merges of xs gives a value
abbrev pub NoneGives : {A : Type 0} → (A → KeyPath → Option Cell) → List A → Type 0
NoneGives {A} look xs = (d : A) → ¬ (Grouping look xs d)

pub record MergeLaws {A : Type 0} (look : A → KeyPath → Option Cell) : Type 0 where
  -- what a grouping gives is the pointwise map of its list
  pub gives : (xs : List A) (c : A) → Grouping look xs c → IsPointwise look xs c
  -- what a grouping refuses has no pointwise map
  pub refuses : (xs : List A) → RefusedGrouping look xs → IsMixed look xs
  -- the values of two lists merge to that of both, and are mixed exactly where both are, with the same shapes
  pub appends : (xs ys : List A) (f g : A) → IsPointwise look xs f → IsPointwise look ys g → (p : KeyPath) → joined (cells_at look p (f ∷ g ∷ [])) ≡ joined (cells_at look p (xs ++ ys))
  -- two values that a list has show the same cells
  pub same : (xs : List A) (c d : A) → IsPointwise look xs c → IsPointwise look xs d → (p : KeyPath) → look c p ≡ look d p
  -- no list has both
  pub exact : (xs : List A) (c : A) → IsPointwise look xs c → IsMixed look xs → ⊥
  -- where a list is joined, every grouping gives the cells of that, and none is refused
  pub joins : (xs : List A) (c : A) → IsPointwise look xs c → AllGive look xs c
  -- where a front of a list is mixed, no grouping gives a value
  pub fronts : (xs : List A) (n : ℕ) → IsMixed look (take n xs) → NoneGives look xs
  -- a value without cells is an identity
  pub identity : (e x : A) → ((p : KeyPath) → look e p ≡ None) → IsPointwise look (e ∷ x ∷ []) x × IsPointwise look (x ∷ e ∷ []) x

module _ {A : Type 0} (look : A → KeyPath → Option Cell) where
  at-append : (p : KeyPath) (xs ys : List A) → cells_at look p (xs ++ ys) ≡ cells_at look p xs ++ cells_at look p ys
  at-append p xs ys = filter_map-append (λ x. look x p) xs ys

  in_two : (p : KeyPath) (f g : A) → cells_at look p (f ∷ g ∷ []) ≡ present (look f p ∷ look g p ∷ [])
  in_two p f g = shown (look f p) (look g p)
    where
      shown : (o r : Option Cell) → present (o ∷ r ∷ []) ≡ present (o ∷ r ∷ [])
      shown o r = refl

  appends : (xs ys : List A) (f g : A) → IsPointwise look xs f → IsPointwise look ys g → (p : KeyPath) → joined (cells_at look p (f ∷ g ∷ [])) ≡ joined (cells_at look p (xs ++ ys))
  appends xs ys f g h k p = sym (ap joined (at-append p xs ys) ∙ joined-append (cells_at look p xs) (cells_at look p ys) (look f p) (look g p) (h p) (k p))

  gives : (xs : List A) (c : A) → Grouping look xs c → IsPointwise look xs c
  gives _ _ (one x) p = joined_alone (look x p)
  gives _ _ (two xs ys f g c l r h) p = sym (appends xs ys f g (gives xs f l) (gives ys g r) p) ∙ h p

  refuses : (xs : List A) → RefusedGrouping look xs → IsMixed look xs
  refuses _ (here xs ys f g l r h) = (h.0, (h.1.0, sym (appends xs ys f g (gives xs f l) (gives ys g r) h.0) ∙ h.1.1))
  refuses _ (before xs ys r) =
      let h = refuses xs r in
      (h.0, (h.1.0, ap joined (at-append h.0 xs ys) ∙ mixed_before (cells_at look h.0 xs) (cells_at look h.0 ys) h.1.0 h.1.1))
  refuses _ (behind xs ys r) =
      let h = refuses ys r in
      let m = mixed_behind (cells_at look h.0 xs) (cells_at look h.0 ys) h.1.0 h.1.1 in
      (h.0, (m.0, ap joined (at-append h.0 xs ys) ∙ m.1))

  ok_same : (o : Result (Option Cell) (Shape × Shape)) (a b : Option Cell) → o ≡ Ok a → o ≡ Ok b → a ≡ b
  ok_same o a b h k = cc

  not_both : (o : Result (Option Cell) (Shape × Shape)) (a : Option Cell) (m : Shape × Shape) → o ≡ Ok a → o ≡ Err m → ⊥
  not_both o a m h k = cc

  joins : (xs : List A) (c : A) → IsPointwise look xs c → AllGive look xs c
  joins xs c h = (λ d g p. ok_same _ _ _ (gives xs d g p) (h p), λ r. let m = refuses xs r in not_both _ _ _ (h m.0) m.1.1)

  fronts : (xs : List A) (n : ℕ) → IsMixed look (take n xs) → NoneGives look xs
  fronts xs n m d g =
      let met : joined (cells_at look m.0 (take n xs ++ drop n xs)) ≡ Err m.1.0 =
      ap joined (at-append m.0 (take n xs) (drop n xs)) ∙ mixed_before (cells_at look m.0 (take n xs)) (cells_at look m.0 (drop n xs)) m.1.0 m.1.1 in
      not_both _ _ _ (gives xs d g m.0) (ap (λ ys. joined (cells_at look m.0 ys)) (sym (take-append-drop n xs)) ∙ met)

  none_first : (o r : Option Cell) → o ≡ None → joined (present (o ∷ r ∷ [])) ≡ Ok r
  none_first o r e = ap (λ q. joined (present (q ∷ r ∷ []))) e ∙ joined_alone r

  none_last : (o r : Option Cell) → o ≡ None → joined (present (r ∷ o ∷ [])) ≡ Ok r
  none_last o None e = ap (λ q. joined (present (q ∷ []))) e
  none_last o (Some c) e = ap (λ q. joined (present (Some c ∷ q ∷ []))) e ∙ joined_alone (Some c)

  -- whatever shows its cells, its merges have these laws
  pub merge_laws : MergeLaws look
  merge_laws = record {
    gives = gives;
    refuses = refuses;
    appends = appends;
    same = λ xs c d h k p. ok_same _ _ _ (h p) (k p);
    exact = λ xs c h m. not_both _ _ _ (h m.0) m.1.1;
    joins = joins;
    fronts = fronts;
    identity = λ e x h. (λ p. none_first (look e p) (look x p) (h p), λ p. none_last (look e p) (look x p) (h p));
  }
