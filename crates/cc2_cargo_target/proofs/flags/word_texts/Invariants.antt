use Rattle.std.proofs.Common.{◌≡◌, ◌++◌, map, string_bytes}
use Rattle.std.specs.Vec.Iter.{into_iter_items}
use Rattle.cc2_value.specs.Values.{words_of}
use Rattle.cc2_cargo_target.specs.Flags.{set_texts}
use Rattle.cc2_cargo_settings.specs.Shown.{list_view}
use Rattle.cc2_cargo_target.proofs.flags.word_texts.Given as goal

abbrev pub invariant-loop-word : goal.invariant-loop-word
invariant-loop-word l =
    map string_bytes l.texts.items ++ map (λ w. w.text) (words_of (into_iter_items l.word-iterator)) ≡ set_texts (list_view l.fn.set)
