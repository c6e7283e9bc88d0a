use Rattle.std.proofs.Common.{◌≡◌, ◌++◌, codes, drop, false}
use denote.Text.{Utf8}
use denote.Shadow.{shadow}
use Rattle.serde_json.specs.View.{items_view, members_view}
use Rattle.serde_json.specs.Written.{items_have_float, members_have_float}
use Rattle.cc2_json.specs.TomlLines.{pairs, with_commas}
use Rattle.cc2_json.proofs.inline.+inline.Given as goal

-- what is written, and the items left
abbrev pub invariant-push_array-loop-item : goal.invariant-push_array-loop-item
invariant-push_array-loop-item l = shadow (Utf8 l.separator)
    × (items_have_float (items_view l.items) ≡ false
    → (items_have_float (items_view (drop l.item-index l.items)) ≡ false)
    × (l.out.items ++ with_commas l.separator (items_view (drop l.item-index l.items))
    ≡ l.fn.out.items ++ (codes "[" ++ with_commas (codes "") (items_view l.items))))

-- what is written, and the members left
abbrev pub invariant-push_table-loop-name : goal.invariant-push_table-loop-name
invariant-push_table-loop-name l = shadow (Utf8 l.separator) × (shadow (Utf8 l.end)
    × (members_have_float (members_view l.members.entries) ≡ false
    → (members_have_float (members_view l.name-iterator) ≡ false)
    × (l.out.items ++ pairs l.separator l.end (members_view l.name-iterator)
    ≡ l.fn.out.items ++ (codes "{" ++ pairs (codes " ") (codes "}") (members_view l.members.entries)))))
