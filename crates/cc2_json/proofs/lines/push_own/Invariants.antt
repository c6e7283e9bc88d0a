use Rattle.std.proofs.Common.{◌≡◌, ◌++◌, codes, drop, false}
use Rattle.serde_json.specs.View.{items_view}
use Rattle.serde_json.specs.Written.{items_have_float}
use Rattle.cc2_json.specs.TomlLines.{own_lines}
use Rattle.cc2_json.proofs.lines.push_own.Given as goal

abbrev pub invariant-loop-item : goal.invariant-loop-item
invariant-loop-item l = items_have_float (items_view l.items) ≡ false
    → (items_have_float (items_view (drop l.item-index l.items)) ≡ false)
    × (l.out.items ++ own_lines (items_view (drop l.item-index l.items))
    ≡ (l.fn.out.items ++ codes "[\n") ++ own_lines (items_view l.items))
