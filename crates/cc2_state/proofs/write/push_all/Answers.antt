use Rattle.std.proofs.Common.{map, string_bytes, subst, arith}
use Rattle.std.proofs.lemmas.List.{take_all}
use Rattle.cc2_ask.specs.Fields.{text_at}
use Rattle.cc2_ask.specs.Written.{AreAppended, IsAppended}
use Rattle.cc2_state.proofs.Pushed.{item_appended, items_listed, texts_listed}
use Rattle.cc2_state.proofs.write.push_all.Goals as goal

pub loop-text-preserved : goal.loop-text-preserved
loop-text-preserved c =
    let mid = c.loop-text.out.items in
    let now = c.push_text.new.out.items in
    item_appended string_bytes text_at c.args.texts.now c.loop-text.text-index c.text-item.result c.push_number.new.out.items mid now
    c.loop-text-test.true c.text-item.is c.loop-text.invariant
    (subst (λ t. IsAppended text_at t mid now) c.as_str.ensures.value c.in_ok-push_text.ensures)

pub returns : goal.returns
returns c =
    let texts = c.args.texts.now in
    let was = c.args.out.now.items in
    let mid = c.push_number.new.out.items in
    let now = c.loop-text.out.items in
    let all = take_all c.loop-text.text-index texts (omega (arith, c.loop-text-test.false)) in
    texts_listed (map string_bytes texts) was now
    (items_listed string_bytes text_at texts was mid now c.in_ok-push_number.ensures.read
    (subst (λ xs. AreAppended text_at (map string_bytes xs) mid now) all c.loop-text.invariant))
