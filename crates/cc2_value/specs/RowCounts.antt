-- How many parts two rows have.
use Rattle.std.specs.Prelude.{◌≡◌, ℕ, ◌+◌, List, ◌++◌, length}
use Rattle.std.proofs.Common.{ap, ◌∙◌}
use Rattle.std.proofs.lemmas.List.{length-append}

pub both_counts : {A : Type 0} (xs ys : List A) (m n : ℕ) → length xs ≡ m → length ys ≡ n → length (xs ++ ys) ≡ m + n
both_counts xs ys m n h g = length-append xs ys ∙ ap (λ k. k + length ys) h ∙ ap (λ k. m + k) g
