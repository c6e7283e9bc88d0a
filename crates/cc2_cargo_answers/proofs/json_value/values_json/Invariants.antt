use Rattle.std.proofs.Common.{◌≡◌, ◌++◌, drop, map}
use Rattle.serde_json.specs.View.{view}
use Rattle.cc2_cargo.specs.Raw.{raw_value}
use Rattle.cc2_cargo_answers.specs.RawJson.{setting_json}
use Rattle.cc2_cargo_answers.proofs.json_value.values_json.Given as goal

-- the JSON of all values is that of those done, and then that of those left
abbrev pub invariant-loop-value : goal.invariant-loop-value
invariant-loop-value l =
    map (setting_json l.form) (map raw_value l.fn.values)
    ≡ map view l.list.items ++ map (setting_json l.form) (map raw_value (drop l.value-index l.fn.values))
