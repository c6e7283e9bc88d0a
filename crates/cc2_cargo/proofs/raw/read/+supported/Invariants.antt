use Rattle.std.proofs.Common.{◌≡◌, drop}
use Rattle.toml.specs.View.{items_view, members_view}
use Rattle.cc2_cargo.specs.RawReading.{are_supported, have_supported}
use Rattle.cc2_cargo.proofs.raw.read.+supported.Given as goal

-- all items are supported where those that are left are
abbrev pub invariant-are_supported-loop-item : goal.invariant-are_supported-loop-item
invariant-are_supported-loop-item l = are_supported (items_view (drop l.item-index l.items)) ≡ are_supported (items_view l.fn.items)

-- the same of members
abbrev pub invariant-have_supported-loop-value : goal.invariant-have_supported-loop-value
invariant-have_supported-loop-value l = have_supported (members_view l.value-iterator) ≡ have_supported (members_view l.fn.table.entries)
