use Rattle.std.proofs.Common.{◌≡◌, map, take}
use Rattle.serde_json.specs.Data.{string}
use Rattle.serde_json.specs.View.{view}
use Rattle.cc2_value.specs.Rows.{texts_of}
use Rattle.cc2_json.proofs.words.texts.Given as goal

abbrev pub invariant-loop-word : goal.invariant-loop-word
invariant-loop-word l = map view l.texts.items ≡ map string (texts_of (take l.word-index l.words))
