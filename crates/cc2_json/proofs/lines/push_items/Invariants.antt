use Rattle.std.proofs.Common.{◌≡◌, ◌++◌, drop, false}
use Rattle.std.specs.Prelude.{option_map}
use Rattle.serde_json.specs.View.{items_view, view}
use Rattle.serde_json.specs.Written.{items_have_float}
use Rattle.cc2_json.specs.TomlLines.{listed_lines}
use Rattle.cc2_json.proofs.lines.push_items.Given as goal

abbrev pub invariant-loop-item : goal.invariant-loop-item
invariant-loop-item l = items_have_float (items_view l.items) ≡ false
    → (items_have_float (items_view (drop l.item-index l.items)) ≡ false)
    × (l.out.items ++ listed_lines (option_map (λ d. view d.now) l.origin) (items_view (drop l.item-index l.items))
    ≡ l.fn.out.items ++ listed_lines (option_map (λ d. view d.now) l.fn.origin) (items_view l.items))
