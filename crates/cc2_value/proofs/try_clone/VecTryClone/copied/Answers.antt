use Rattle.std.proofs.Common.{◌≡◌, [], ◌∷◌, ◌++◌, ◌+◌, take, arith}
use Rattle.std.proofs.lemmas.Grind.{common_steps}
use Rattle.cc2_value.specs.Copies.{origin_given}
use Rattle.cc2_value.proofs.Copies.{copied_more, length_copied, list_copied}
use Rattle.cc2_value.proofs.try_clone.VecTryClone.copied.Goals as goal

pub loop-item-preserved : goal.loop-item-preserved
loop-item-preserved g c =
    let look = g.T.TryClone.shown in
    let origin = origin_given c.args.definition in
    let done = take c.loop-item.item-index c.deref-item-items.result.now in
    let taken : take (c.loop-item.item-index + 1) c.deref-item-items.result.now ≡ done ++
    c.item-item.result ∷ [] = grind (arith, common_steps) in
    let more = copied_more look origin done c.loop-item.copies.items c.item-item.result
    c.in_ok-copied.field-0 c.loop-item.invariant c.in_ok-copied.ensures.ok in
    rw (taken, c.in_ok-push.ensures.items) more

pub returns-clause-length : goal.returns-clause-length
returns-clause-length g c =
    let all : take c.loop-item.item-index c.deref-item-items.result.now ≡ c.args.self.now.items = grind
    (arith, common_steps) in
    length_copied g.T.TryClone.shown (origin_given c.args.definition) c.args.self.now.items
    c.loop-item.copies.items (rw all at c.loop-item.invariant)

pub returns-clause-ok : goal.returns-clause-ok
returns-clause-ok g c =
    let look = g.T.TryClone.shown in
    let origin = origin_given c.args.definition in
    let all : take c.loop-item.item-index c.deref-item-items.result.now ≡ c.args.self.now.items = grind
    (arith, common_steps) in
    list_copied look origin c.args.self.now.items c.loop-item.copies.items (rw all at c.loop-item.invariant)
