-- A text cut at a byte.
use Rattle.std.proofs.Common.{◌≡◌, ◌==◌, ◌<◌, ◌+◌, ℕ, suc, Bool, true, false, not, cond, ◌&&◌, if◌then◌else◌, List, [], ◌∷◌, ◌++◌, length, take, drop, Option, Some, None, arith}
use Rattle.std.proofs.Common.{refl, sym, ap, ◌∙◌, append_assoc, subst, le_of_suc-le-suc}
use Rattle.std.proofs.lemmas.Bool.{eqb-true}
use Rattle.std.proofs.lemmas.List.{append-nil}
use Rattle.std.specs.List.{after_first, before_first, position_or_len}
use Rattle.toml.specs.View.{members_view}
use Rattle.toml.proofs.Views.{Entry}
use Rattle.cc2_cargo.specs.Dotted.{after_passing, count}

module _ (b : ℕ) (test : List ℕ → Bool) where
  -- what comes after a front that passes, or after a later one
  abbrev pub next_passing : List ℕ → List ℕ → Option (List ℕ)
  next_passing front after = if test front then Some after else after_passing b test (front ++ b ∷ []) after

  -- where the byte is, or the length, after one byte more
  abbrev at : Bool → List ℕ → ℕ
  at r xs = cond (not r) (suc (position_or_len (λ c. c == b) xs)) 0

  is_at : (r : Bool) (xs : List ℕ) → cond (not r) (1 + position_or_len (λ c. c == b) xs) 0 ≡ at r xs
  is_at true xs = refl
  is_at false xs = omega arith

  -- the text before the byte, and after it
  abbrev cut_at : List ℕ → List ℕ → ℕ → Option (List ℕ)
  cut_at front xs n = next_passing (front ++ take n xs) (drop (suc n) xs)

  one_more : (front xs : List ℕ) (x : ℕ) (r : Bool) → (r ≡ true → x ≡ b) → at r xs < suc (length xs)
      → (position_or_len (λ c. c == b) xs < length xs → after_passing b test (front ++ x ∷ []) xs
      ≡ cut_at (front ++ x ∷ []) xs (position_or_len (λ c. c == b) xs))
      → (if r && test front then Some xs else after_passing b test (front ++ x ∷ []) xs) ≡ cut_at front (x ∷ xs) (at r xs)
  one_more front xs x true is lt later =
      ap (λ y. if test front then Some xs else after_passing b test (front ++ y ∷ []) xs) (is refl) ∙ ap (λ f. next_passing f xs) (sym (append-nil front))
  one_more front xs x false is lt later =
      let n = position_or_len (λ c. c == b) xs in
      later (le_of_suc-le-suc lt) ∙ ap (λ f. next_passing f (drop (suc n) xs)) (append_assoc front (x ∷ []) (take n xs))

  found_at : (front xs : List ℕ) → position_or_len (λ c. c == b) xs < length xs → after_passing b test front xs ≡ cut_at front xs (position_or_len (λ c. c == b) xs)
  found_at front [] h = absurd (omega (arith, h))
  found_at front (x ∷ xs) h =
      one_more front xs x (x == b) (λ e. eqb-true x b e) (subst (λ n. n < suc (length xs)) (is_at (x == b) xs) h) (λ lt. found_at (front ++ x ∷ []) xs lt)
      ∙ ap (λ n. cut_at front (x ∷ xs) n) (sym (is_at (x == b) xs))

  pub found : (front xs : List ℕ) → position_or_len (λ c. c == b) xs < length xs
      → after_passing b test front xs ≡ next_passing (front ++ before_first (λ c. c == b) xs) (after_first (λ c. c == b) xs)
  found front xs h =
      let n = position_or_len (λ c. c == b) xs in
      let same : suc n ≡ n + 1 = omega arith in
      found_at front xs h ∙ ap (λ m. next_passing (front ++ take n xs) (drop m xs)) same

  none_more : (front xs : List ℕ) (x : ℕ) (r : Bool) → at r xs ≡ suc (length xs)
      → (position_or_len (λ c. c == b) xs ≡ length xs → after_passing b test (front ++ x ∷ []) xs ≡ None)
      → (if r && test front then Some xs else after_passing b test (front ++ x ∷ []) xs) ≡ None
  none_more front xs x true is later = absurd (omega (arith, is))
  none_more front xs x false is later = later (omega (arith, is))

  pub not_found : (front xs : List ℕ) → position_or_len (λ c. c == b) xs ≡ length xs → after_passing b test front xs ≡ None
  not_found front [] h = refl
  not_found front (x ∷ xs) h = none_more front xs x (x == b) (sym (is_at (x == b) xs) ∙ h) (λ is. not_found (front ++ x ∷ []) xs is)

-- a table has as many members as entries
pub counted : (es : List Entry) → count (members_view es) ≡ length es
counted [] = refl
counted (e ∷ es) = ap suc (counted es)
