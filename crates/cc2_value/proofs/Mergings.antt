-- Two that are merged, and two that are gathered.
use Rattle.std.proofs.Common.{◌≡◌, [], ◌∷◌, Option, Ok, sym, ap, ◌∙◌, inl, inr, option_map}
use Rattle.cc2_error.specs.declared.error.Error.{Error}
use Rattle.cc2_value.specs.Cells.{KeyPath, Cell, joined, present, IsPointwise}
use Rattle.cc2_value.specs.Refusals.{IsRefused}
use Rattle.cc2_value.specs.Gathered.{reversed, reversed_at, IsGathered, IsUngathered, IsReversed, HasNoList}
use Rattle.cc2_value.proofs.Gathers.{twice}

module _ {A : Type 0} (look : A → KeyPath → Option Cell) where
  -- reversed, and reversed again
  back : (a b : A) (p : KeyPath) → IsReversed look a b → reversed_at look b p ≡ look a p
  back a b p h = ap (option_map reversed) (h p) ∙ twice (look a p)

  pub merged_by_gathering : (a b t u c : A) → IsReversed look a t → IsGathered look t b u → IsReversed look u c → IsPointwise look (a ∷ b ∷ []) c
  merged_by_gathering a b t u c h k l p = ap (λ o. joined (present (o ∷ look b p ∷ []))) (sym (back a t p h)) ∙ k p ∙ ap Ok (sym (l p))

  pub unmerged_by_gathering : (a b t : A) (e : Error) → IsReversed look a t → IsUngathered look t b e → IsRefused look (a ∷ b ∷ []) e
  unmerged_by_gathering a b t e h (inl m) = inl m
  unmerged_by_gathering a b t e h (inr k) = inr (k.0, k.1, ap (λ o. joined (present (o ∷ look b k.0 ∷ []))) (sym (back a t k.0 h)) ∙ k.2, k.3)

  pub gathered_by_merging : (a b t u c : A) → IsReversed look a t → IsPointwise look (t ∷ b ∷ []) u → IsReversed look u c → IsGathered look a b c
  gathered_by_merging a b t u c h k l p = ap (λ o. joined (present (o ∷ look b p ∷ []))) (sym (h p)) ∙ k p ∙ ap Ok (sym (back u c p l))

  pub ungathered_by_merging : (a b t : A) (e : Error) → IsReversed look a t → IsRefused look (t ∷ b ∷ []) e → IsUngathered look a b e
  ungathered_by_merging a b t e h (inl m) = inl m
  ungathered_by_merging a b t e h (inr k) = inr (k.0, k.1, ap (λ o. joined (present (o ∷ look b k.0 ∷ []))) (sym (h k.0)) ∙ k.2, k.3)

  -- of a type that shows no list
  pub unlisted_gathered : (a b c : A) → HasNoList look → IsPointwise look (a ∷ b ∷ []) c → IsGathered look a b c
  unlisted_gathered a b c n k p = ap (λ o. joined (present (o ∷ look b p ∷ []))) (n a p) ∙ k p ∙ ap Ok (sym (n c p))

  pub unlisted_ungathered : (a b : A) (e : Error) → HasNoList look → IsRefused look (a ∷ b ∷ []) e → IsUngathered look a b e
  unlisted_ungathered a b e n (inl m) = inl m
  unlisted_ungathered a b e n (inr k) = inr (k.0, k.1, ap (λ o. joined (present (o ∷ look b k.0 ∷ []))) (n a k.0) ∙ k.2, k.3)
