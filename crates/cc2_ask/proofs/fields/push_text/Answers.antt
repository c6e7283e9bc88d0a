use Rattle.std.proofs.lemmas.Str.{is_utf8-from_IsUtf8}
use Rattle.cc2_ask.proofs.Written.{text_appended}
use Rattle.cc2_ask.proofs.fields.push_text.Goals as goal

pub returns : goal.returns
returns c =
    text_appended c.push_field.result c.args.text.now c.as_bytes.result.now c.args.out.now.items c.push_field.new.out.items
    c.as_bytes.ensures.value (is_utf8-from_IsUtf8 c.args.text.now c.utf8.text) c.push_field.ensures.bytes c.push_field.ensures.short
