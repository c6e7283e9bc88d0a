-- The fields of a resolved table in a row: their keys, and the cells of each.
use Rattle.std.specs.Prelude.{ℕ, List, map}
use Rattle.cc2_value.specs.Visits.{Look}
use Rattle.cc2_resolved.specs.Rows.{Row}
use Rattle.cc2_resolved_json.specs.Plain.{plain_at}

abbrev pub keys_of_rows : {A : Type 0} → List (Row A) → List (List ℕ)
keys_of_rows rows = map (λ r. r.key) rows

abbrev pub looks_of_rows : {A : Type 0} → List (Row A) → A → List Look
looks_of_rows rows a = map (λ r. plain_at (r.shows a)) rows
