-- The space for a character more.
use Rattle.std.proofs.Common.{◌≡◌, ◌≢◌, ◌∙◌, ℕ, suc, ◌-◌, ◌+◌, ◌<◌, false, not, List, ◌∷◌, drop, get_or, length, map, take, ap, subst, arith, drop-cons}
use Rattle.std.specs.Prelude.{if◌then◌else◌}
use Rattle.cc2_reports.specs.Characters.{first_bytes, is_continued}
use Rattle.cc2_reports.specs.Text.{blank_for, blanks}

more : (left n b : ℕ) (rest : List ℕ) → left ≡ suc n → is_continued b ≡ false → blanks left (b ∷ rest) ≡ blank_for b ∷ blanks n rest
more left n b rest is one =
    ap (λ k. blanks k (b ∷ rest)) is
    ∙ ap (λ t. map blank_for (take (suc n) (if not t then b ∷ first_bytes rest else first_bytes rest))) one

pub blanks_more : (left i : ℕ) (line : List ℕ) → i < length line → left ≢ 0 → is_continued (get_or line i 0) ≡ false
    → blanks left (drop i line) ≡ blank_for (get_or line i 0) ∷ blanks (left - 1) (drop (i + 1) line)
blanks_more left i line within some one =
    let next : suc i ≡ i + 1 = omega arith in
    ap (blanks left) (subst (λ k. drop i line ≡ get_or line i 0 ∷ drop k line) next (drop-cons line i 0 within))
    ∙ more left (left - 1) (get_or line i 0) (drop (i + 1) line) (omega (arith, some)) one
