use Rattle.std.proofs.Common.{◌≡◌, map, take}
use Rattle.serde_json.specs.View.{view}
use Rattle.cc2_value.specs.Values.{words_of}
use Rattle.cc2_json.specs.Forms.{word_data}
use Rattle.cc2_json.proofs.words.items.Given as goal

abbrev pub invariant-loop-word : goal.invariant-loop-word
invariant-loop-word l = map view l.items.items ≡ map (word_data l.form.origins) (words_of (take l.word-index l.words))
