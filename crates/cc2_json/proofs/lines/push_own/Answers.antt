use Rattle.std.proofs.Common.{◌+◌, drop}
use Rattle.cc2_json.proofs.TomlPlaces.{left_over, own_step}
use Rattle.cc2_json.proofs.lines.push_own.Goals as goal

pub loop-item-preserved : goal.loop-item-preserved
loop-item-preserved c k =
    own_step _ (drop (c.loop-item.item-index + 1) c.args.items.now) c.item-item.result _ _ c.loop-item.out.items _ _
    (left_over c.args.items.now c.loop-item.item-index c.item-item.result c.loop-item-test.true c.item-item.is)
    (c.loop-item.invariant k) c.get.ensures c.get-in-loop-item.ensures c.in_ok-push_own_item.ensures
