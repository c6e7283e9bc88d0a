use Rattle.std.proofs.Common.{◌≡◌, ℕ, ◌+◌, ◌<◌, Some, None, arith, lit<, length, length-drop, subst, sym}
use Rattle.std.specs.List.{position_or_len}
use Rattle.std.proofs.lemmas.List.Splits.{slice_split_first, slice_split_none}
use Rattle.std.proofs.lemmas.List.Sums.{fails_before_first}
use Rattle.std.proofs.lemmas.Str.Pattern.{split_once_first}
use Rattle.cc2_leaf.specs.Pieces.{is_space}
use Rattle.cc2_leaf.proofs.split.cut_at_space.Goals as goal

pub returns-in-Some : goal.returns-in-Some
returns-in-Some c =
    let text = c.args.text.now in
    let h = split_once_first 32 text (Some (c.in-Some.piece, c.in-Some.rest)) c.in-Some.ensures.cases (lit< tt) in (
      rw (h.1, h.2) (slice_split_first is_space text 0 h.0),
      rw h.2
          (omega (arith, h.0, length-drop (position_or_len is_space text + 1) text)),
    )

pub returns-in-None : goal.returns-in-None
returns-in-None c =
    let text = c.args.text.now in
    let none : position_or_len is_space text ≡ length text = split_once_first 32 text None
    c.in-None.ensures.cases (lit< tt) in (
      slice_split_none is_space text (λ k d h. fails_before_first is_space text k d
          (subst (λ (n : ℕ). k < n) (sym none) h)),
      omega arith,
    )
