use Rattle.std.proofs.Common.{◌≡◌, ◌++◌, Some, map}
use Rattle.cc2_value.specs.Values.{origin_of}
use Rattle.cc2_leaf.specs.Pieces.{spaced, spaced_left}
use Rattle.cc2_leaf.specs.Providers.{setting_of_provider}
use Rattle.cc2_leaf.specs.TextWays.{word_settings, word_faults}
use Rattle.cc2_leaf.proofs.providers.read_words.Given as goal

abbrev pub invariant-loop-word : goal.invariant-loop-word
invariant-loop-word l = record {
  settings : word_settings (Some (origin_of l.definition)) (spaced l.text) ≡ map setting_of_provider l.providers.items
      ++ word_settings (Some (origin_of l.definition)) (spaced_left l.word-iterator.rest);
  faults : word_faults (spaced l.text) ≡ word_faults (spaced_left l.word-iterator.rest);
}
