use Rattle.std.proofs.Common.{◌≡◌, ◌++◌}
use Rattle.cc2_leaf.specs.Pieces.{spaced, spaced_left}
use Rattle.cc2_value.specs.Rows.{texts_of}
use Rattle.cc2_compare.proofs.words.spaced_words.Given as goal

abbrev pub invariant-loop-word : goal.invariant-loop-word
invariant-loop-word l = texts_of l.all.items ++ spaced_left l.word-iterator.rest ≡ spaced l.text
