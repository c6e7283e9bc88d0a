use Rattle.std.proofs.Common.{◌≡◌, ◌++◌, string_bytes, take}
use Rattle.cc2_value.specs.Rows.{texts_of}
use Rattle.cc2_json.specs.Forms.{behind}
use Rattle.cc2_json.proofs.words.push_behind.Given as goal

abbrev pub invariant-loop-word : goal.invariant-loop-word
invariant-loop-word l = string_bytes l.text ≡ string_bytes l.initial.text ++ behind (texts_of (take l.word-index l.words))
