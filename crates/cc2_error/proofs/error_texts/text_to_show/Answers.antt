use Rattle.std.proofs.Common.{arith}
use Rattle.std.proofs.lemmas.Grind.{common_steps}
use Rattle.std.proofs.lemmas.Str.{is_utf8-from_IsUtf8}
use Rattle.cc2_error.proofs.Utf8.{is_utf8-fails}
use Rattle.cc2_error.proofs.error_texts.text_to_show.Goals as goal
use Rattle.cc2_error.proofs.error_texts.text_to_show.Goals.{in_default-via-in-Ok+else-not-is_empty}
use Rattle.cc2_error.proofs.error_texts.text_to_show.Goals.{in_default-via-in_default}

pub returns-in-Ok : goal.returns-in-Ok
returns-in-Ok c = let u = is_utf8-from_IsUtf8 c.args.bytes.now c.in-Ok.ensures.cases.1 in grind (arith, common_steps)

pub returns-in_default : goal.returns-in_default
returns-in_default c = elim c.in_default.branch [
  | in_default-via-in-Ok+else-not-is_empty w ↦ grind (arith, common_steps)
  | in_default-via-in_default w ↦ let u = is_utf8-fails c.args.bytes.now w.in_default.ensures.cases.0 in
      grind (arith, common_steps)
]
