use Rattle.std.proofs.Common.{◌≡◌, length}
use Rattle.cc2_value.specs.Rows.{texts_of}
use Rattle.cc2_compare.specs.Words.{ends_in_words}
use Rattle.cc2_compare.proofs.words.ends_in_words.Given as goal

abbrev pub invariant-loop-left : goal.invariant-loop-left
invariant-loop-left l = ends_in_words (texts_of l.left) ≡ ends_in_words (texts_of l.fn.path)

abbrev pub decreases-loop-left : goal.decreases-loop-left
decreases-loop-left l = length l.left
