use Rattle.std.proofs.Common.{◌≡◌, ℕ, ◌<◌, Some, None, lit<, length, subst, sym, ap, ◌∙◌}
use Rattle.std.specs.List.{position_or_len}
use Rattle.std.proofs.lemmas.List.Splits.{slice_split_first, slice_split_none}
use Rattle.std.proofs.lemmas.List.Sums.{fails_before_first}
use Rattle.std.proofs.lemmas.Str.Pattern.{split_once_first}
use Rattle.cc2_leaf.specs.Pieces.{is_unit, encoded_left}
use Rattle.cc2_leaf.proofs.split_encoded.SplitEncodedIterator.next.Goals as goal

pub returns-in-Some-clause-steps : goal.returns-in-Some-clause-steps
returns-in-Some-clause-steps c =
    let text = c.in_ok-text.text.now in
    let h = split_once_first 31 text (Some (c.in-Some.piece, c.in-Some.rest)) c.in-Some.ensures.cases (lit< tt) in
    ap encoded_left c.in_ok-text.was ∙ rw (h.1, h.2) (slice_split_first is_unit text 0 h.0)

pub returns-in-None-clause-steps : goal.returns-in-None-clause-steps
returns-in-None-clause-steps c =
    let text = c.in_ok-text.text.now in
    let none : position_or_len is_unit text ≡ length text = split_once_first 31 text None
    c.in-None.ensures.cases (lit< tt) in
    ap encoded_left c.in_ok-text.was ∙ slice_split_none is_unit text
    (λ k d h. fails_before_first is_unit text k d (subst (λ (n : ℕ). k < n) (sym none) h))
