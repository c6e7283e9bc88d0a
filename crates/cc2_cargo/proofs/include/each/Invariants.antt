use Rattle.std.proofs.Common.{◌≡◌, map, drop}
use Rattle.toml.specs.View.{items_view}
use Rattle.cc2_cargo.specs.Includes.{include_view, includes_from}
use Rattle.cc2_cargo.proofs.Including.{after}
use Rattle.cc2_cargo.proofs.include.each.Given as goal

-- all items are those that were read, and those that are left
abbrev pub invariant-loop-index : goal.invariant-loop-index
invariant-loop-index l =
    includes_from 0 (items_view l.fn.items) ≡ after (map include_view l.list.items) (includes_from l.index (items_view (drop l.index l.fn.items)))
