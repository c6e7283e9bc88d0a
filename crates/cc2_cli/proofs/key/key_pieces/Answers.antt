use Rattle.std.proofs.Common.{◌∷◌, [], ℕ, List, map, option_map, Option, Some, Bor, ap, sym, subst, ◌∙◌}
use Rattle.std.proofs.lemmas.List.{map-append}
use Rattle.cc2_cli.proofs.Keys.{IsSoFar, one_more}
use Rattle.cc2_cli.proofs.key.key_pieces.Goals as goal

pub loop-rest-preserved : goal.loop-rest-preserved
loop-rest-preserved c =
    let key = c.args.key.now in
    let pieces : List (List ℕ) = map (λ p. p.now) c.loop-rest.pieces.items in
    let left : Option (List ℕ) = option_map (λ rest. rest.now) c.in-Some-first_piece.behind in
    let so_far : IsSoFar key pieces (Some c.in-Some.text.now) =
    subst (λ (o : Option (Bor (List ℕ))). IsSoFar key pieces (option_map (λ rest. rest.now) o)) c.in-Some.is c.loop-rest.invariant in
    subst (λ (l : List (List ℕ)). IsSoFar key l left)
    (sym (ap (map (λ p. p.now)) c.in_ok-push.ensures.items ∙ map-append (λ p. p.now) c.loop-rest.pieces.items (c.in-Some-first_piece.piece ∷ [])))
    (one_more key c.in-Some.text.now c.in-Some-first_piece.piece.now pieces left so_far c.in-Some-first_piece.ensures)
