use Rattle.std.proofs.Common.{◌≡◌, ◌∙◌, cond, sym, ap}
use Rattle.cc2_cargo.specs.Places.{commands_from}
use Rattle.cc2_cargo.specs.Raw.{array_origin}
use Rattle.cc2_cargo.specs.declared.raw.RawArray.{RawArray}
use Rattle.cc2_cargo.proofs.Merges.{arrays_over}
use Rattle.cc2_cargo.proofs.raw.merge.join.Goals as goal

pub returns-then-is_first-clause-ok : goal.returns-then-is_first-clause-ok
returns-then-is_first-clause-ok c done =
    let set : RawArray = record { items = c.put_items.new.weak; definition = c.args.strong.definition; turn = c.args.strong.turn } in
    arrays_over (commands_from c.args.place) c.args.strong c.args.weak.now set (c.put_items.ensures c.if-not-put_items.false)
    (ap (λ b. cond b (array_origin c.args.strong) (array_origin c.args.weak.now)) (sym c.precedes-is_first.ensures ∙ c.if-is_first.true))

pub returns-else-is_first-clause-ok : goal.returns-else-is_first-clause-ok
returns-else-is_first-clause-ok c done =
    let kept : RawArray = record { items = c.put_items.new.weak; definition = c.args.weak.now.definition; turn = c.args.weak.now.turn } in
    arrays_over (commands_from c.args.place) c.args.strong c.args.weak.now kept (c.put_items.ensures c.if-not-put_items.false)
    (ap (λ b. cond b (array_origin c.args.strong) (array_origin c.args.weak.now)) (sym c.precedes-is_first.ensures ∙ c.if-is_first.false))
