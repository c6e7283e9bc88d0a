use Rattle.std.proofs.Common.{◌≡◌, map, take}
use Rattle.cc2_value.specs.Rows.{texts_of}
use Rattle.cc2_json.specs.Forms.{word_texts}
use Rattle.cc2_resolved.specs.ShownTargets.{target_at}
use Rattle.cc2_resolved.specs.Targets.{command_text}
use Rattle.cc2_resolved_json.specs.Plain.{bare_words}
use Rattle.cc2_resolved_json.proofs.words.target_words.Given as goal

abbrev pub invariant-loop-target : goal.invariant-loop-target
invariant-loop-target l =
    texts_of l.words.items ≡ word_texts (bare_words (map command_text (map target_at (take l.target-index l.targets))))
