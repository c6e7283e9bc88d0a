-- A list that is walked in place: what is after the index is as it was.
use Rattle.std.proofs.Common.{◌≡◌, ◌||◌, Bool, true, false, Option, refl, ℕ, ◌+◌, ◌<◌, ◌≤◌, List, [], ◌∷◌, ◌++◌, drop, length, get_or, slice_set, sym, ap, ◌∙◌, append_assoc}
use Rattle.std.proofs.lemmas.List.Folds.{list_any-append}
use Rattle.std.specs.List.{list_any}
use Rattle.std.specs.Option.{is_some}
use Rattle.std.proofs.lemmas.List.{drop_more, drop-set-lt, drop_all, append-nil}

-- what the index is at
pub here_now : {A : Type 0} (xs : List A) (i : ℕ) (x : A) → i < length xs → x ≡ get_or xs i x → drop i xs ≡ x ∷ drop (i + 1) xs
here_now xs i x lt at = drop_more xs i x lt ∙ ap (λ y. y ∷ drop (i + 1) xs) (sym at)

-- one more is passed, and something is put in its place
pub walked_more : {A : Type 0} (passed xs all : List A) (i : ℕ) (x y : A) → i < i + 1 → i < length xs → x ≡ get_or xs i x → passed ++ drop i xs ≡ all
    → (passed ++ x ∷ []) ++ drop (i + 1) (slice_set xs i y) ≡ all
walked_more passed xs all i x y below lt at whole =
    ap (λ zs. (passed ++ x ∷ []) ++ zs) (drop-set-lt (i + 1) xs i y below)
    ∙ append_assoc passed (x ∷ []) (drop (i + 1) xs) ∙ ap (λ zs. passed ++ zs) (sym (here_now xs i x lt at)) ∙ whole

-- all are passed
pub all_walked : {A : Type 0} (passed xs all : List A) (i : ℕ) → length xs ≤ i → passed ++ drop i xs ≡ all → passed ≡ all
all_walked passed xs all i done whole = sym (ap (λ zs. passed ++ zs) (drop_all i xs done) ∙ append-nil passed) ∙ whole

-- whether one is there, with one more
or_false : (a b : Bool) → (a || b) ≡ (a || (b || false))
or_false true b = refl
or_false false true = refl
or_false false false = refl

pub present_more : {A : Type 0} (ys : List (Option A)) (m x n : Option A) → is_some m ≡ list_any is_some ys → is_some n ≡ (is_some m || is_some x) → is_some n ≡ list_any is_some (ys ++ x ∷ [])
present_more ys m x n h k = k ∙ ap (λ b. b || is_some x) h ∙ or_false (list_any is_some ys) (is_some x) ∙ sym (list_any-append is_some ys (x ∷ []))
