use Rattle.std.proofs.Common.{◌≡◌, ◌++◌}
use Rattle.cc2_leaf.specs.Pieces.{encoded, encoded_left}
use Rattle.cc2_resolved.specs.Texts.{texts_of}
use Rattle.cc2_resolved.proofs.pieces.encoded_pieces.Given as goal

abbrev pub invariant-loop-piece : goal.invariant-loop-piece
invariant-loop-piece l = texts_of l.pieces.items ++ encoded_left l.piece-iterator.rest ≡ encoded l.text
