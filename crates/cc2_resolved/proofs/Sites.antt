-- What is resolved of equal cells.
use Rattle.std.proofs.Common.{◌≡◌, ℕ, List, [], ◌∷◌, codes, Option, refl, sym, ◌∙◌}
use Rattle.std.specs.Option.{is_some}
use Rattle.cc2_error.specs.Causes.{Refusal}
use Rattle.cc2_value.specs.Cells.{field, name, KeyPath}
use Rattle.cc2_resolved.specs.Answers.{Answer}
use Rattle.cc2_value.specs.Visits.{Look}
use Rattle.cc2_resolved.specs.Rows.{Row, how_at, by_row, IsResolved, IsRefusedSo}
use Rattle.cc2_resolved.specs.Sites.{site_in}

module _ {A : Type 0} (rows : List (Row A)) (directory : List ℕ) (f g : Look) (same : (k : List ℕ) (p : KeyPath) → f (field k ∷ p) ≡ g (field k ∷ p)) where
  same_row : (p : KeyPath) → by_row rows (site_in directory f) f p ≡ by_row rows (site_in directory g) g p
  same_row [] = refl
  same_row (name k ∷ p) = refl
  same_row (field k ∷ p) =
      λ i. how_at rows k (record { directory = directory; is_alias = λ n. is_some (same (codes "credential-alias") (name n ∷ []) i) }) (λ q. same k q i) p

  -- a table is resolved alike of cells that are equal below its fields
  pub resolved_alike : (shown : KeyPath → Option Answer) → IsResolved (by_row rows) (site_in directory f) f shown → IsResolved (by_row rows) (site_in directory g) g shown
  resolved_alike shown h = record { is = λ p. sym (same_row p) ∙ h.is p }

  pub refused_alike : (refusal : Refusal) → IsRefusedSo (by_row rows) (site_in directory f) f refusal → IsRefusedSo (by_row rows) (site_in directory g) g refusal
  refused_alike refusal (p, h) = (p, sym (same_row p) ∙ h)
