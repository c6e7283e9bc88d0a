use Rattle.std.proofs.Common.{◌≡◌, ◌++◌, map}
use Rattle.std.specs.Vec.Iter.{into_iter_items}
use Rattle.cc2_value.specs.Values.{words_of}
use Rattle.cc2_cargo.specs.Raw.{raw_value}
use Rattle.cc2_cargo_settings.specs.Changes.{word_value}
use Rattle.cc2_cargo_settings.proofs.read.array.Given as goal

-- the values so far, and the words left
abbrev pub invariant-loop-word : goal.invariant-loop-word
invariant-loop-word l =
    map raw_value l.items.items ++ map word_value (words_of (into_iter_items l.word-iterator)) ≡ map word_value (words_of l.fn.words.items)
