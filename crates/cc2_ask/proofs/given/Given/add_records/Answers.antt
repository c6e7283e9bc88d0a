use Rattle.std.proofs.Common.{◌≡◌, ◌-◌, ◌+◌, suc, Err, arith, sym, subst, ap, ◌∙◌}
use Rattle.cc2_ask.specs.Givens.{given_behind}
use Rattle.cc2_ask.specs.Records.{records_in}
use Rattle.cc2_ask.specs.Views.{AddsAll, given_view, record_view}
use Rattle.cc2_ask.proofs.Requests.{taken_one, refused, too_many}
use Rattle.cc2_ask.proofs.given.Given.add_records.Goals as goal

pub returns-in-Err : goal.returns-in-Err
returns-in-Err c =
    let n = c.args.most - (c.loop.counter + 1) in
    let known = given_view c.loop.self in
    let bytes = c.loop.reader.rest.now in
    let rest = c.read.new.reader.rest.now in
    let left : suc n ≡ c.args.most - c.loop.counter = omega (arith, c.loop-test.true) in
    subst (λ all. AddsAll all known (Err c.in-Err.fault))
    (ap (λ k. given_behind known (records_in k bytes)) left ∙ c.loop.invariant)
    (refused n known known bytes rest c.in-Err.fault (λ h. grind (arith, c.is_at_end.ensures.1 h, c.if-is_at_end.false)) c.in-Err.ensures)

pub loop-preserved : goal.loop-preserved
loop-preserved c =
    let n = c.args.most - (c.loop.counter + 1) in
    let known = given_view c.loop.self in
    let bytes = c.loop.reader.rest.now in
    let rest = c.read.new.reader.rest.now in
    let left : suc n ≡ c.args.most - c.loop.counter = omega (arith, c.loop-test.true) in
    ap (λ g. given_behind g (records_in n rest)) c.in_ok-add-in-Ok.ensures
    ∙ taken_one n known bytes rest (record_view c.in-Ok.one) c.in-Ok.ensures
    ∙ ap (λ k. given_behind known (records_in k bytes)) left
    ∙ c.loop.invariant

pub returns-else-is_at_end-2 : goal.returns-else-is_at_end-2
returns-else-is_at_end-2 c =
    let known = given_view c.loop.self in
    let bytes = c.loop.reader.rest.now in
    let left : c.args.most - c.loop.counter ≡ 0 = omega (arith, c.loop-test.false) in
    sym c.loop.invariant ∙ ap (λ k. given_behind known (records_in k bytes)) left
    ∙ too_many known bytes (λ h. grind (arith, c.is_at_end-2.ensures.1 h, c.if-is_at_end-2.false))
