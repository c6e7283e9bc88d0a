-- Texts that are appended one after the other.
use Rattle.std.proofs.Common.{◌≡◌, ℕ, List, ◌++◌, ap, ◌∙◌}

-- one text more
pub then : (text more all before : List ℕ) → before ≡ text → all ≡ before ++ more → all ≡ text ++ more
then text more all before is h = h ∙ ap (λ xs. xs ++ more) is
