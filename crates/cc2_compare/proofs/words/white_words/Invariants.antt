use Rattle.std.proofs.Common.{◌≡◌, ◌++◌}
use Rattle.std.specs.Str.{IsUtf8}
use Rattle.std.specs.Str.Iter.{split_whitespace_rest}
use Rattle.cc2_cargo_settings.specs.Words.{white_words}
use Rattle.cc2_value.specs.Rows.{texts_of}
use Rattle.cc2_compare.proofs.words.white_words.Given as goal

abbrev pub invariant-loop-word : goal.invariant-loop-word
invariant-loop-word l =
    IsUtf8 (split_whitespace_rest l.word-iterator)
    × (texts_of l.all.items ++ white_words (split_whitespace_rest l.word-iterator) ≡ white_words l.fn.text)
