use Rattle.std.proofs.Common.{◌≡◌, ◌-◌, ◌+◌, suc, [], ◌∷◌, map, string_bytes, arith, ap, ◌∙◌}
use Rattle.std.proofs.lemmas.List.{map-append}
use Rattle.cc2_ask.specs.Fields.{text_at, texts_at}
use Rattle.cc2_ask.proofs.Written.{after, taken_one}
use Rattle.cc2_ask.proofs.reader.Reader.so_many_texts.Goals as goal

pub loop-preserved : goal.loop-preserved
loop-preserved c =
    let n = c.args.count - (c.loop.counter + 1) in
    let taken = c.loop.texts.items in
    let text = c.in_ok-text.field-0 in
    let bytes = c.loop.self.rest.now in
    let rest = c.text.new.self.rest.now in
    let left : suc n ≡ c.args.count - c.loop.counter = omega (arith, c.loop-test.true) in
    ap (λ texts. after texts (texts_at n rest)) (ap (map string_bytes) c.in_ok-push.ensures.items ∙ map-append string_bytes taken (text ∷ []))
    ∙ taken_one text_at n (map string_bytes taken) bytes rest (string_bytes text) c.in_ok-text.ensures
    ∙ ap (λ k. after (map string_bytes taken) (texts_at k bytes)) left
    ∙ c.loop.invariant
