use Rattle.std.proofs.Common.{◌≡◌, map, drop}
use Rattle.serde_json.specs.View.{view}
use Rattle.cc2_json.specs.AtKey.{alone_at}
use Rattle.cc2_json.proofs.keyed.alone_at.Given as goal

abbrev pub invariant-loop-at : goal.invariant-loop-at
invariant-loop-at l =
    view l.json ≡ alone_at (map (λ p. p.now) (drop l.at l.fn.pieces)) (view l.fn.value)
