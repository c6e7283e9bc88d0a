-- A text many times over.
use Rattle.std.proofs.Common.{◌≡◌, ℕ, zero, suc, ◌+◌, List, ◌++◌, sym, ap, append_assoc, append-nil, add-one}
use Rattle.std.specs.List.{repeat}

-- once more at the end
pub repeat_suc : {A : Type 0} (n : ℕ) (xs : List A) → repeat n xs ++ xs ≡ repeat (suc n) xs
repeat_suc zero xs = sym (append-nil xs)
repeat_suc (suc n) xs = rw append_assoc (ap (λ ys. xs ++ ys) (repeat_suc n xs))

pub repeat_more : {A : Type 0} (n : ℕ) (xs : List A) → repeat n xs ++ xs ≡ repeat (n + 1) xs
repeat_more n xs = rw add-one (repeat_suc n xs)
