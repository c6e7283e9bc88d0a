use Rattle.std.proofs.Common.{◌≡◌, ◌++◌, List, String, Global, drop}
use Rattle.serde_json.specs.View.{items_view, members_view}
use Rattle.toml.specs.View.{items_view as toml_items, members_view as toml_members}
use Rattle.toml.specs.declared.value.Value.{Value as TomlValue}
use Rattle.cc2_cargo_answers.specs.RawJson.{items_json, members_json}
use Rattle.cc2_cargo_answers.proofs.Values.{behind}
use Rattle.cc2_cargo_answers.proofs.json_value.+toml.Given as goal

-- the JSON of all items is that of those done, and then that of those left
abbrev pub invariant-items_json-loop-item : goal.invariant-items_json-loop-item
invariant-items_json-loop-item l =
    items_json l.fn.hides (toml_items l.fn.items) ≡ behind (items_view l.list.items) (items_json l.fn.hides (toml_items (drop l.item-index l.fn.items)))

-- the members done are written
abbrev pub invariant-members_json-loop-key : goal.invariant-members_json-loop-key
invariant-members_json-loop-key l =
    (done : List (String Global × TomlValue)) × (l.fn.table.entries ≡ done ++ l.key-iterator) × (members_view l.map.entries ≡ members_json l.fn.hides (toml_members done))
