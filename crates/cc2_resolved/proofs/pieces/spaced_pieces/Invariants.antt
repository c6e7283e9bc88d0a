use Rattle.std.proofs.Common.{◌≡◌, ◌++◌}
use Rattle.cc2_leaf.specs.Pieces.{spaced, spaced_left}
use Rattle.cc2_resolved.specs.Texts.{texts_of}
use Rattle.cc2_resolved.proofs.pieces.spaced_pieces.Given as goal

abbrev pub invariant-loop-piece : goal.invariant-loop-piece
invariant-loop-piece l = texts_of l.pieces.items ++ spaced_left l.piece-iterator.rest ≡ spaced l.text
