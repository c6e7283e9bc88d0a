-- A text that is cut at its braces.
use Rattle.std.proofs.Common.{◌≡◌, ℕ, Bool, true, false, not, ◌&&◌, ◌||◌, ◌<◌, List, length, All, refl, ap, sym, ◌∙◌, arith}
use Rattle.std.specs.List.{list_any, slice_split, position_or_len, before_first, after_first}
use Rattle.std.proofs.lemmas.List.Folds.{list_any_none}
use Rattle.std.proofs.lemmas.List.Splits.{slice_split_none, slice_split_first}
use Rattle.std.proofs.lemmas.List.Sums.{fails_before_first}
use Rattle.cc2_findings.specs.Templates.{variables, is_opening, is_closing, is_closed, names_variable, lacks_variable, are_stray, has_stray_brace}
use Rattle.cc2_findings.specs.Places.{is_among}

-- where the first that passes is after the end, none passes
none_passes : {X : Type 0} (p : X → Bool) (xs : List X) → position_or_len p xs ≡ length xs → All (λ x. p x ≡ false) xs
none_passes p xs e k d l = fails_before_first p xs k d (omega (arith, l, e))

-- a piece without `}`
pub open_piece : (piece : List ℕ) → position_or_len is_closing piece ≡ length piece → names_variable piece ≡ false
open_piece piece e =
    ap (λ b. (b && is_among variables (before_first is_closing piece)) && not (is_closed (after_first is_closing piece)))
    (list_any_none is_closing piece (none_passes is_closing piece e))

or_false : (b : Bool) → (b || false) ≡ b
or_false true = refl
or_false false = refl

-- a text without `{`
pub plain_text : (text : List ℕ) → position_or_len is_opening text ≡ length text → has_stray_brace text ≡ is_closed text
plain_text text e = ap are_stray (slice_split_none is_opening text (none_passes is_opening text e)) ∙ or_false (is_closed text)

-- a text that is cut at its first `{`
pub cut_text : (text before behind : List ℕ)
    → (position_or_len is_opening text < length text) × (before ≡ before_first is_opening text) × (behind ≡ after_first is_opening text)
    → has_stray_brace text ≡ (is_closed before || list_any lacks_variable (slice_split is_opening behind))
cut_text text before behind (inside, is_before, is_behind) =
    ap are_stray (slice_split_first is_opening text 0 inside)
    ∙ sym (ap (λ b. is_closed b || list_any lacks_variable (slice_split is_opening behind)) is_before
    ∙ ap (λ b. is_closed (before_first is_opening text) || list_any lacks_variable (slice_split is_opening b)) is_behind)
