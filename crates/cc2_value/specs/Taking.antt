-- What a walk makes of a table whose visitor changes as it goes, as one that takes values out of a TOML table.
use Rattle.std.specs.Prelude.{◌≡◌, ℕ, List, [], ◌∷◌, Option, Some, None, if◌then◌else◌}
use Rattle.std.specs.Str.{bytes_eq}
use Rattle.toml.specs.Data.{Members, get_member}
use Rattle.cc2_error.specs.declared.error.Error.{Error}
use Rattle.cc2_value.specs.Cells.{field, Origin}
use Rattle.cc2_value.specs.Shown.{Field}
use Rattle.cc2_value.specs.Visits.{Look}
use Rattle.cc2_value.specs.Ways.{Way, cells_in, faults_in, below, IsDecoded, IsFaultBehind}

-- what a visit makes of a field: M holds of the visitor before it, the field's key, its way, what it then shows, and the visitor after it
pub record IsTaken {V : Type 0} (M : V → List ℕ → Way → Look → V → Type 0) (v : V) (key : List ℕ) (way : Way) (look : Look) (w : V) : Type 0 where
  pub taken : M v key way look w

-- it is so at each field in turn, from one visitor to the next
abbrev pub AllTaken : {A V : Type 0} → List (Field A) → (V → List ℕ → Way → Look → V → Type 0) → V → A → V → Type 0
AllTaken [] M v a w = v ≡ w
AllTaken {V = V} (f ∷ fs) M v a w = (u : V) × IsTaken M v f.key f.way (f.cells a) u × AllTaken fs M u a w

-- a refusal stays; else D holds, or R of the refusal that comes
abbrev pub GoesOn : Option Error → Option Error → Type 0 → (Error → Type 0) → Type 0
GoesOn (Some e) o D R = o ≡ Some e
GoesOn None None D R = D
GoesOn None (Some e) D R = R e

-- the members after are those before, without the one at a key
abbrev pub IsWithout : List ℕ → Members → Members → Type 0
IsWithout key before after = (k : List ℕ) → get_member k after ≡ if bytes_eq key k then None else get_member k before

-- a field is read of the member at its key, which is taken out, or a fault of it refuses the table
abbrev pub TakesField : {V : Type 0} → (V → Members) → (V → Option Error) → (V → Option Origin) → V → List ℕ → Way → Look → V → Type 0
TakesField left refused origin v key way look w =
    GoesOn (refused v) (refused w)
    (IsDecoded (λ l. l) (cells_in way (origin v) (get_member key (left v))) (faults_in way (get_member key (left v))) look × IsWithout key (left v) (left w))
    (IsFaultBehind [] (below (field key) (faults_in way (get_member key (left v)))))
    × (origin w ≡ origin v)
