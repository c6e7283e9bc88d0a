use Rattle.std.proofs.Common.{◌≡◌, ◌++◌, List, String, Global}
use Rattle.serde_json.specs.View.{members_view}
use Rattle.cc2_cargo.specs.declared.raw.Raw.{Raw}
use Rattle.cc2_cargo_answers.proofs.Tables.{AreJson}
use Rattle.cc2_cargo_answers.proofs.json.+json.Given as goal

-- the entries done are written, and the others follow them
abbrev pub invariant-table_json-loop-key : goal.invariant-table_json-loop-key
invariant-table_json-loop-key l =
    (done : List (String Global × Raw)) × (l.fn.members.entries ≡ done ++ l.key-iterator) × AreJson l.fn.form l.fn.secret done (members_view l.map.entries)
