use Rattle.std.proofs.Common.{◌≡◌, ◌++◌, filter}
use Rattle.std.specs.Vec.Iter.{into_iter_items}
use Rattle.cc2_value.specs.Values.{words_of}
use Rattle.cc2_cargo_settings.specs.Values.{is_no_override, is_override}
use Rattle.cc2_cargo_settings.proofs.values.around.Given as goal

-- the words so far, and those left
abbrev pub invariant-loop-word : goal.invariant-loop-word
invariant-loop-word l =
    (words_of l.all.items ++ filter is_no_override (words_of (into_iter_items l.word-iterator)) ≡ filter is_no_override (words_of l.fn.words.items))
    × (words_of l.overrides.items ++ filter is_override (words_of (into_iter_items l.word-iterator)) ≡ filter is_override (words_of l.fn.words.items))
