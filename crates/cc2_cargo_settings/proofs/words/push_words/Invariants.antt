use Rattle.std.proofs.Common.{◌≡◌, ◌++◌}
use Rattle.std.specs.Str.{IsUtf8}
use Rattle.std.specs.Str.Iter.{split_whitespace_rest}
use Rattle.cc2_value.specs.Copies.{origin_given}
use Rattle.cc2_value.specs.Values.{words_of}
use Rattle.cc2_cargo_settings.specs.Words.{words_of_setting}
use Rattle.cc2_cargo_settings.proofs.words.push_words.Given as goal

abbrev pub invariant-loop-word : goal.invariant-loop-word
invariant-loop-word l =
    IsUtf8 (split_whitespace_rest l.word-iterator)
    × (words_of l.words.items ++ words_of_setting (origin_given l.definition) (split_whitespace_rest l.word-iterator)
    ≡ words_of l.fn.words.items ++ words_of_setting (origin_given l.definition) l.fn.text)
