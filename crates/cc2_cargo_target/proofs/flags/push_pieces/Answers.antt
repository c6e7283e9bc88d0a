use Rattle.std.proofs.Common.{◌≡◌, ℕ, ◌+◌, ◌<◌, List, Bor, [], ◌∷◌, ◌++◌, Some, None, arith, lit<, rules, length, length-drop, map, append_assoc, ap, subst, sym, ◌∙◌}
use Rattle.std.proofs.lemmas.List.{map-append}
use Rattle.std.specs.List.{position_or_len, slice_split}
use Rattle.std.proofs.lemmas.List.Splits.{slice_split_first, slice_split_none}
use Rattle.std.proofs.lemmas.List.Sums.{fails_before_first}
use Rattle.std.proofs.lemmas.Str.Pattern.{split_once_first}
use Rattle.cc2_base.specs.Paths.{is_dot}
use Rattle.cc2_cargo_target.proofs.flags.push_pieces.Goals as goal

pub pieces-preserved : goal.pieces-preserved
pieces-preserved c =
    let text = c.pieces.left.now in
    let now : Bor (List ℕ) → List ℕ = λ k. k.now in
    let h = split_once_first 46 text (Some (c.in-Some.piece, c.in-Some.rest)) c.in-Some.ensures.cases (lit< tt) in
    let cut : slice_split is_dot text ≡ c.in-Some.piece.now ∷ slice_split is_dot c.in-Some.rest.now = rw (h.1, h.2) (slice_split_first is_dot text 0 h.0) in (
      search rules,
      ap (λ ps. map now ps ++ slice_split is_dot c.in-Some.rest.now) c.in_ok-push.ensures.items
          ∙ ap (λ ts. ts ++ slice_split is_dot c.in-Some.rest.now) (map-append now c.pieces.pieces.items (c.in-Some.piece ∷ []))
          ∙ append_assoc (map now c.pieces.pieces.items) (c.in-Some.piece.now ∷ []) (slice_split is_dot c.in-Some.rest.now)
          ∙ ap (λ ts. map now c.pieces.pieces.items ++ ts) (sym cut) ∙ c.pieces.invariant.1,
    )

pub pieces-smaller : goal.pieces-smaller
pieces-smaller c =
    let text = c.pieces.left.now in
    let h = split_once_first 46 text (Some (c.in-Some.piece, c.in-Some.rest)) c.in-Some.ensures.cases (lit< tt) in
    rw h.2 (omega (arith, h.0, length-drop (position_or_len is_dot text + 1) text))

pub returns : goal.returns
returns c =
    let text = c.pieces.left.now in
    let none : position_or_len is_dot text ≡ length text = split_once_first 46 text None c.in_default.ensures.cases (lit< tt) in
    let one : slice_split is_dot text ≡ text ∷ [] = slice_split_none is_dot text (λ k d h. fails_before_first is_dot text k d (subst (λ (n : ℕ). k < n) (sym none) h)) in
    let now : Bor (List ℕ) → List ℕ = λ k. k.now in
    ap (map now) c.in_ok-push-2.ensures.items ∙ map-append now c.pieces.pieces.items (c.pieces.left ∷ [])
    ∙ ap (λ ts. map now c.pieces.pieces.items ++ ts) (sym one) ∙ c.pieces.invariant.1
