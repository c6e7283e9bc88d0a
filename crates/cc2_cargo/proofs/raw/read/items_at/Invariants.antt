use Rattle.std.proofs.Common.{◌≡◌, ◌++◌, map}
use Rattle.std.specs.Vec.Iter.{into_iter_items}
use Rattle.toml.specs.View.{items_view}
use Rattle.cc2_cargo.specs.Raw.{layer_origin, raw_value}
use Rattle.cc2_cargo.specs.RawReading.{values_set}
use Rattle.cc2_cargo.proofs.raw.read.items_at.Given as goal

-- the settings of all items are those that are made, and those of the items left
abbrev pub invariant-loop-item : goal.invariant-loop-item
invariant-loop-item l =
    values_set (layer_origin l.from).origin (items_view l.fn.items.items)
    ≡ map raw_value l.read.items ++ values_set (layer_origin l.from).origin (items_view (into_iter_items l.item-iterator))
