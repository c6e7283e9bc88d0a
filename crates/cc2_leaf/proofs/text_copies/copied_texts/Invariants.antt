use Rattle.std.proofs.Common.{◌≡◌, take}
use Rattle.cc2_value.specs.Copies.{origin_given, words_set}
use Rattle.cc2_value.specs.Values.{words_of}
use Rattle.cc2_leaf.proofs.text_copies.copied_texts.Given as goal

abbrev pub invariant-loop-text : goal.invariant-loop-text
invariant-loop-text l = words_of l.copies.items ≡ words_set (origin_given l.definition) (words_of (take l.text-index l.texts))
