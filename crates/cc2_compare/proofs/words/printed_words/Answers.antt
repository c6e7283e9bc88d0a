use Rattle.std.proofs.Common.{ap, ◌∙◌}
use Rattle.serde_json.specs.Written.{compact_text, has_float}
use Rattle.cc2_value.specs.Rows.{texts_of}
use Rattle.cc2_compare.proofs.Texts.{words_free}
use Rattle.cc2_compare.proofs.words.printed_words.Goals as goal

pub returns : goal.returns
returns c =
    let array = c.in_ok-words_json.ensures in
    c.in_ok-to_string.ensures.text (ap has_float array ∙ words_free (texts_of c.args.all.now)) ∙ ap compact_text array
