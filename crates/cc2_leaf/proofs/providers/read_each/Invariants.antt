use Rattle.std.proofs.Common.{◌≡◌, ◌++◌, map, drop}
use Rattle.toml.specs.View.{items_view}
use Rattle.cc2_value.specs.Copies.{origin_given}
use Rattle.cc2_leaf.specs.Providers.{setting_of_provider}
use Rattle.cc2_leaf.specs.ManyProviders.{each_setting, each_fault}
use Rattle.cc2_leaf.proofs.providers.read_each.Given as goal

abbrev pub invariant-loop-item : goal.invariant-loop-item
invariant-loop-item l = record {
  settings : each_setting (origin_given l.definition) (items_view l.items) ≡ map setting_of_provider l.providers.items
      ++ each_setting (origin_given l.definition) (items_view (drop l.item-index l.items));
  faults : each_fault (items_view l.items) ≡ each_fault (items_view (drop l.item-index l.items));
}
