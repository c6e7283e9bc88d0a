-- The parts of a table in a row, and their keys.
use Rattle.std.specs.Prelude.{ℕ, Bool, true, not, ◌&&◌, List, [], ◌∷◌, map, Option, None, if◌then◌else◌}
use Rattle.std.specs.Borrow.{Bor}
use Rattle.std.specs.List.{list_any}
use Rattle.std.specs.Str.{bytes_eq}
use Rattle.cc2_value.specs.Cells.{field, name, KeyPath, Cell}
use Rattle.cc2_value.specs.Shown.{Field}
use Rattle.cc2_value.specs.Visits.{Look}

-- what the part at a key shows
abbrev pub part_at : List (List ℕ) → List Look → List ℕ → KeyPath → Option Cell
part_at [] ls q p = None
part_at (k ∷ ks) [] q p = None
part_at (k ∷ ks) (l ∷ ls) q p = if bytes_eq k q then l p else part_at ks ls q p

-- what the parts show, each below its key
abbrev pub row_at : List (List ℕ) → List Look → KeyPath → Option Cell
row_at ks ls [] = None
row_at ks ls (field q ∷ p) = part_at ks ls q p
row_at ks ls (name q ∷ p) = None

abbrev pub texts_of : List (Bor (List ℕ)) → List (List ℕ)
texts_of keys = map (λ k. k.now) keys

-- no text occurs twice
abbrev pub are_distinct : List (List ℕ) → Bool
are_distinct [] = true
are_distinct (k ∷ ks) = not (list_any (bytes_eq k) ks) && are_distinct ks

abbrev pub keys_of_fields : {A : Type 0} → List (Field A) → List (List ℕ)
keys_of_fields fs = map (λ f. f.key) fs

abbrev pub looks_of_fields : {A : Type 0} → List (Field A) → A → List Look
looks_of_fields fs a = map (λ f. f.cells a) fs
