use Rattle.std.proofs.Common.{◌≡◌, ◌<◌, length, List, [], ◌∷◌, map, String, Global, string_bytes, refl, sym, ap, ◌∙◌, arith}
use Rattle.cc2_cli.specs.GetWords.{question_of}
use Rattle.cc2_reply.specs.Asked.{get, asked_in}
use Rattle.cc2_reply.proofs.question.asked.Goals as goal

-- less than two words are none of `show`
too_few : (ws : List (String Global)) → length ws < 2 → asked_in (map string_bytes ws) ≡ get (question_of (map string_bytes ws))
too_few [] lt = refl
too_few (a ∷ []) lt = refl
too_few (a ∷ b ∷ ws) lt = absurd (omega (arith, lt))

pub returns-in_default : goal.returns-in_default
returns-in_default c = ap get c.asked.ensures ∙ sym (too_few c.args.words.now c.in_default.len_below)
