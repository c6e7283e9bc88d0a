use Rattle.std.proofs.Common.{length, map, string_bytes, subst}
use Rattle.std.proofs.lemmas.Result.{on_ok_weaker}
use Rattle.cc2_ask.specs.Fields.{IsSmall, AreShort}
use Rattle.cc2_resolved_cells.proofs.words.push_words.Goals as goal

pub returns-clause-short : goal.returns-clause-short
returns-clause-short c =
    let program = subst (λ text. IsSmall (length text)) c.as_bytes.ensures.value c.in_ok-push_field.ensures.short in
    on_ok_weaker c.push_fields.result
    (λ args. (program, subst (λ texts. AreShort (map string_bytes texts)) c.as_slice.ensures.value args))
    c.push_fields.ensures.short
