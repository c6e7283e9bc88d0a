use Rattle.std.proofs.Common.{◌≡◌, map, drop}
use Rattle.serde_json.specs.View.{view}
use Rattle.cc2_json.specs.AtKey.{at_key}
use Rattle.cc2_json.proofs.keyed.at_key.Given as goal

abbrev pub invariant-loop-piece : goal.invariant-loop-piece
invariant-loop-piece l =
    at_key l.fn.origins (map (λ p. p.now) (drop l.piece-index l.pieces)) (view l.found)
    ≡ at_key l.fn.origins (map (λ p. p.now) l.fn.pieces) (view l.fn.json)
