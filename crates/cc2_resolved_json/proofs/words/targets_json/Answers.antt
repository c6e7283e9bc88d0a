use Rattle.std.proofs.Common.{map, ap, ◌∙◌}
use Rattle.cc2_value.specs.Rows.{texts_of}
use Rattle.cc2_resolved.specs.ShownTargets.{target_at}
use Rattle.cc2_resolved.specs.Targets.{command_text}
use Rattle.cc2_resolved_json.proofs.Cells.{items_json}
use Rattle.cc2_resolved_json.proofs.words.targets_json.Goals as goal

pub returns : goal.returns
returns c =
    items_json (texts_of c.as_slice.result.now) (map command_text (map target_at c.args.targets.now)) c.words_json.result
    (ap texts_of c.as_slice.ensures.value ∙ c.in_ok-words.ensures) c.words_json.ensures
