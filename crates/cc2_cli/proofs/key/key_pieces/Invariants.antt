use Rattle.std.proofs.Common.{map, option_map}
use Rattle.cc2_cli.specs.Keys.{room_left}
use Rattle.cc2_cli.proofs.Keys.{IsSoFar}
use Rattle.cc2_cli.proofs.key.key_pieces.Given as goal

abbrev pub invariant-loop-rest : goal.invariant-loop-rest
invariant-loop-rest l = IsSoFar l.fn.key (map (λ p. p.now) l.pieces.items) (option_map (λ rest. rest.now) l.rest)

abbrev pub decreases-loop-rest : goal.decreases-loop-rest
decreases-loop-rest l = room_left (option_map (λ rest. rest.now) l.rest)
