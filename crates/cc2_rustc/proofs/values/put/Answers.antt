use Rattle.std.proofs.Common.{◌∙◌, ap, sym, map, option_map, string_bytes}
use Rattle.cc2_rustc.specs.Values.{with_text, with_value}
use Rattle.cc2_rustc.proofs.CfgTexts.{insert-text}
use Rattle.cc2_rustc.proofs.values.put.Goals as goal

pub returns-in_ok-insert : goal.returns-in_ok-insert
returns-in_ok-insert c =
    let before = map string_bytes c.args.values.now.keys in
    ap (map string_bytes) c.in_ok-insert.ensures.keys
    ∙ insert-text c.args.values.now.keys c.in_ok-from_str.field-0
    ∙ ap (with_text before) c.in_ok-from_str.ensures.ok
    ∙ sym (ap (λ o. with_value before (option_map (λ value. value.now) o)) c.in-Some.is)
