use Rattle.std.proofs.Common.{◌≡◌, drop, map}
use Rattle.cc2_value.specs.Values.{words_of}
use Rattle.cc2_cargo.specs.Raw.{raw_value}
use Rattle.cc2_cargo_settings.specs.Cells.{array_words, words_then}
use Rattle.cc2_cargo_settings.proofs.cell.texts.Given as goal

abbrev pub invariant-loop-value : goal.invariant-loop-value
invariant-loop-value l =
    array_words (map raw_value l.values) ≡ words_then (words_of l.words.items) (array_words (map raw_value (drop l.value-index l.values)))
