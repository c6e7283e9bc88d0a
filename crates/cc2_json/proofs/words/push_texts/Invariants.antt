use Rattle.std.proofs.Common.{◌≡◌, ◌++◌, take}
use Rattle.cc2_value.specs.Rows.{texts_of}
use Rattle.cc2_value.specs.Values.{words_of}
use Rattle.cc2_json.specs.Forms.{word_texts}
use Rattle.cc2_json.proofs.words.push_texts.Given as goal

abbrev pub invariant-loop-word : goal.invariant-loop-word
invariant-loop-word l = texts_of l.texts.items ≡ texts_of l.initial.texts.items ++ word_texts (words_of (take l.word-index l.words))
