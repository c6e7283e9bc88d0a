use Rattle.std.proofs.Common.{◌≡◌, ◌++◌, take}
use Rattle.cc2_value.specs.Rows.{texts_of}
use Rattle.cc2_json.specs.Forms.{word_texts}
use Rattle.cc2_resolved_json.specs.Plain.{bare_words}
use Rattle.cc2_resolved_json.proofs.words.push_texts.Given as goal
use Rattle.cc2_resolved.specs.Texts as owned

abbrev pub invariant-loop-text : goal.invariant-loop-text
invariant-loop-text l =
    texts_of l.words.items ≡ texts_of l.initial.words.items ++ word_texts (bare_words (owned.texts_of (take l.text-index l.texts)))
