use Rattle.std.proofs.Common.{◌≡◌, drop}
use Rattle.serde_json.specs.View.{items_view}
use Rattle.cc2_lint_settings.specs.Setters.{all_set}
use Rattle.cc2_lint_settings.proofs.setter.all_set.Given as goal

-- the items that are left have the answer
abbrev pub invariant-loop-item : goal.invariant-loop-item
invariant-loop-item l = all_set (items_view (drop l.item-index l.items)) ≡ all_set (items_view l.fn.items)
