use Rattle.std.proofs.Common.{◌≡◌, ◌++◌}
use Rattle.cc2_value.specs.Values.{words_of}
use Rattle.cc2_value.specs.Copies.{origin_given}
use Rattle.cc2_leaf.specs.Pieces.{encoded, encoded_left}
use Rattle.cc2_leaf.specs.Lists.{words_at}
use Rattle.cc2_leaf.proofs.texts.encoded_texts.Given as goal

abbrev pub invariant-loop-piece : goal.invariant-loop-piece
invariant-loop-piece l =
    words_of l.values.items ++ words_at (origin_given l.definition) (encoded_left l.piece-iterator.rest)
    ≡ words_at (origin_given l.definition) (encoded l.text)
