-- Lists that have a pointwise map, and from which place on one has none.
use Rattle.std.proofs.Common.{◌≡◌, ℕ, ◌+◌, List, [], ◌∷◌, ◌++◌, map, take, drop}
use Rattle.std.proofs.Common.{Option, None, Result, Ok, Err, refl, sym, ap, subst, ◌∙◌}
use Rattle.std.proofs.lemmas.List.{take-append-drop, take-map}
use Rattle.std.proofs.lemmas.List.Elements.{filter_map-append}
use Rattle.std.specs.List.{filter_map, cons_option}
use Rattle.cc2_error.specs.declared.error.Shape.{Shape}
use Rattle.cc2_value.specs.Cells.{KeyPath, Cell, joined, cells_at, IsPointwise}
use Rattle.cc2_value.specs.JoinedLaws.{mixed_before}
use Rattle.cc2_value.specs.Places.{HaveMap, IsUnjoined}
use Rattle.cc2_value.specs.declared.merge_fault.MergeAllFault.{MergeAllFault}
use Rattle.cc2_value.specs.declared.merge_fault.MergeAllFault.TheVariants as fault

not_both : (o : Result (Option Cell) (Shape × Shape)) (a : Option Cell) (m : Shape × Shape) → o ≡ Ok a → o ≡ Err m → ⊥
not_both o a m h k = cc

pub nothing : {A : Type 0} (look : A → Option Cell) → ((x : A) → look x ≡ None) → (xs : List A) → filter_map look xs ≡ []
nothing look none [] = refl
nothing look none (x ∷ xs) = ap (λ o. cons_option o (filter_map look xs)) (none x) ∙ nothing look none xs

module _ {A : Type 0} (look : A → KeyPath → Option Cell) where
  -- the first values of a list that has a map have one
  front : (xs ys : List A) → HaveMap look (xs ++ ys) → HaveMap look xs
  front xs ys h p = by (joined (cells_at look p xs)) refl
    where
      by : (r : Result (Option Cell) (Shape × Shape)) → joined (cells_at look p xs) ≡ r → (o : Option Cell) × (joined (cells_at look p xs) ≡ Ok o)
      by (Ok o) e = (o, e)
      by (Err m) e =
          absurd (not_both (joined (cells_at look p (xs ++ ys))) (h p).0 m (h p).1
          (ap joined (filter_map-append (λ x. look x p) xs ys) ∙ mixed_before (cells_at look p xs) (cells_at look p ys) m e))

  pub have_take : (n : ℕ) (xs : List A) → HaveMap look xs → HaveMap look (take n xs)
  have_take n xs h = front (take n xs) (drop n xs) (subst (λ (ys : List A). HaveMap look ys) (sym (take-append-drop n xs)) h)

  pub have_from : (xs : List A) (c : A) → IsPointwise look xs c → HaveMap look xs
  have_from xs c h p = (look c p, h p)

-- values that are seen as others
module _ {A B : Type 0} (f : A → B) (la : A → KeyPath → Option Cell) (lb : B → KeyPath → Option Cell) where
  pub seen : (p q : KeyPath) → ((x : A) → la x p ≡ lb (f x) q) → (xs : List A) → cells_at la p xs ≡ cells_at lb q (map f xs)
  seen p q same [] = refl
  seen p q same (x ∷ xs) = ap (λ o. cons_option o (cells_at la p xs)) (same x) ∙ ap (cons_option (lb (f x) q)) (seen p q same xs)

  module _ (same : (x : A) (p : KeyPath) → la x p ≡ lb (f x) p) where
    pub have_over : (xs : List A) → HaveMap lb (map f xs) → HaveMap la xs
    have_over xs h p = ((h p).0, ap joined (seen p p (λ x. same x p) xs) ∙ (h p).1)

    pub have_under : (xs : List A) → HaveMap la xs → HaveMap lb (map f xs)
    have_under xs h p = ((h p).0, ap joined (sym (seen p p (λ x. same x p) xs)) ∙ (h p).1)

    pub pointwise_over : (xs : List A) (c : A) → IsPointwise lb (map f xs) (f c) → IsPointwise la xs c
    pointwise_over xs c h p = ap joined (seen p p (λ x. same x p) xs) ∙ h p ∙ ap Ok (sym (same c p))

    pub pointwise_under : (xs : List A) (c : A) → IsPointwise la xs c → IsPointwise lb (map f xs) (f c)
    pointwise_under xs c h p = ap joined (sym (seen p p (λ x. same x p) xs)) ∙ h p ∙ ap Ok (same c p)

    pub unjoined_over : (xs : List A) (e : MergeAllFault) → IsUnjoined lb (map f xs) e → IsUnjoined la xs e
    unjoined_over xs fault.Memory h = tt
    unjoined_over xs (fault.Mixed place e) h = record {
      before = have_over (take place xs) (subst (λ (ys : List B). HaveMap lb ys) (take-map f place xs) h.before);
      path = h.path;
      shapes = h.shapes;
      meet = (
        ap joined (seen h.path h.path (λ x. same x h.path) (take (place + 1) xs))
            ∙ ap (λ ys. joined (cells_at lb h.path ys)) (sym (take-map f (place + 1) xs)) ∙ h.meet.0,
        h.meet.1,
      );
    }

    pub unjoined_under : (xs : List A) (e : MergeAllFault) → IsUnjoined la xs e → IsUnjoined lb (map f xs) e
    unjoined_under xs fault.Memory h = tt
    unjoined_under xs (fault.Mixed place e) h = record {
      before = subst (λ (ys : List B). HaveMap lb ys) (sym (take-map f place xs)) (have_under (take place xs) h.before);
      path = h.path;
      shapes = h.shapes;
      meet = (
        ap (λ ys. joined (cells_at lb h.path ys)) (take-map f (place + 1) xs)
            ∙ ap joined (sym (seen h.path h.path (λ x. same x h.path) (take (place + 1) xs))) ∙ h.meet.0,
        h.meet.1,
      );
    }
