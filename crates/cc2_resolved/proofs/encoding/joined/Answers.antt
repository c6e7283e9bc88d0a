use Rattle.std.proofs.Common.{sym, ap, take, string_bytes, ◌∙◌}
use Rattle.cc2_resolved.specs.Texts.{texts_of}
use Rattle.cc2_resolved.specs.Encodings.{separator_byte, with_flag, encoding}
use Rattle.cc2_resolved.proofs.FlagTexts.{texts_more, encoding-push}
use Rattle.cc2_resolved.proofs.encoding.joined.Goals as goal

pub loop-flag-preserved : goal.loop-flag-preserved
loop-flag-preserved c =
    let byte = separator_byte c.args.separator in
    let flag = c.flag-item.result in
    let so_far = texts_of (take c.loop-flag.flag-index c.args.flags.now) in
    c.in_ok-put_behind.ensures.put
    ∙ ap (λ text. with_flag byte (string_bytes c.loop-flag.text) text) c.as_str.ensures.value
    ∙ ap (λ text. with_flag byte text (string_bytes flag)) c.loop-flag.invariant
    ∙ sym (encoding-push byte so_far (string_bytes flag))
    ∙ ap (encoding byte) (sym (texts_more c.args.flags.now c.loop-flag.flag-index flag
    c.loop-flag-test.true c.flag-item.is))
