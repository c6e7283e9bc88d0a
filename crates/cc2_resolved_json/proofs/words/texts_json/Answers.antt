use Rattle.std.proofs.Common.{◌++◌, ap, ◌∙◌}
use Rattle.cc2_value.specs.Rows.{texts_of}
use Rattle.cc2_json.specs.Forms.{word_texts}
use Rattle.cc2_resolved.specs.Texts as owned
use Rattle.cc2_resolved_json.specs.Plain.{bare_words}
use Rattle.cc2_resolved_json.proofs.Cells.{items_json}
use Rattle.cc2_resolved_json.proofs.words.texts_json.Goals as goal

pub returns : goal.returns
returns c =
    let texts = owned.texts_of c.args.texts.now in
    items_json (texts_of c.as_slice.result.now) texts c.words_json.result
    (ap texts_of c.as_slice.ensures.value ∙ c.in_ok-push_texts.ensures ∙ ap (λ ws. texts_of ws ++ word_texts (bare_words texts)) c.new-words.ensures.items)
    c.words_json.ensures
