use Rattle.std.proofs.Common.{◌+◌, [], ◌∷◌, arith, drop, refl}
use Rattle.std.proofs.lemmas.Grind.{common_steps}
use Rattle.cc2_json.proofs.OneLine.{item_step, pair_step}
use Rattle.cc2_json.proofs.TomlPlaces.{left_over}
use Rattle.cc2_json.proofs.inline.+inline.Goals as goal

pub push_array-loop-item-preserved : goal.push_array-loop-item-preserved
unfolding lib.Utf8.encode
push_array-loop-item-preserved t c = (
  (44 ∷ (32 ∷ []), (refl, refl)),
  λ free. item_step _ c.loop-item.out.items _ _ _ _ (drop (c.loop-item.item-index + 1) c.args.items.now) c.item-item.result
      (left_over c.args.items.now c.loop-item.item-index c.item-item.result c.loop-item-test.true c.item-item.is)
      (c.loop-item.invariant.1 free) c.in_ok-push-2.ensures c.in_ok-push_value.ensures,
)

pub push_table-loop-name-preserved : goal.push_table-loop-name-preserved
unfolding lib.Utf8.encode
push_table-loop-name-preserved t c = (
  (44 ∷ (32 ∷ []), (refl, refl)),
  (
    (32 ∷ (125 ∷ []), (refl, grind (arith, common_steps))),
    λ free. pair_step _ c.loop-name.out.items _ _ _ _ _ _ _ c.next.new.self (c.in-Some.name.now, c.in-Some.value.now)
        c.in-Some.ensures.steps (c.loop-name.invariant.1.1 free) c.in_ok-push-2.ensures
        c.as_str.ensures.value c.in_ok-push_key.ensures c.in_ok-push_value.ensures,
  ),
)
