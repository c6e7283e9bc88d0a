use Rattle.std.proofs.Common.{◌≡◌, ◌++◌, map, string_bytes}
use Rattle.cc2_leaf.specs.Pieces.{spaced_left}
use Rattle.cc2_resolved.proofs.provider_kind.copied_pieces.Given as goal

abbrev pub invariant-loop-piece : goal.invariant-loop-piece
invariant-loop-piece l = map string_bytes l.copies.items ++ spaced_left l.piece-iterator.rest ≡ spaced_left l.fn.pieces.rest
