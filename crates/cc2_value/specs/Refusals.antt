-- What the refusal of a merge says.
use Rattle.std.specs.Prelude.{◌≡◌, ◌⊎◌, ℕ, List, [], ◌∷◌, ◌++◌, map, Option, Err}
use Rattle.cc2_error.specs.Causes.{refusal_of, plain, memory, mixed}
use Rattle.cc2_error.specs.declared.error.Shape.{Shape}
use Rattle.cc2_error.specs.declared.error.Error.{Error}
use Rattle.cc2_value.specs.Cells.{Cell, KeyPath, key_text, joined, cells_at}

-- memory is refused, or the error names a key path where two shapes meet, after these keys, and the shapes
abbrev pub IsRefusedBehind : {A : Type 0} → List (List ℕ) → (A → KeyPath → Option Cell) → List A → Error → Type 0
IsRefusedBehind keys look xs e =
    (refusal_of e ≡ plain memory)
    ⊎ ((p : KeyPath) × (shapes : Shape × Shape) × (joined (cells_at look p xs) ≡ Err shapes) × (refusal_of e ≡ plain (mixed (keys ++ map key_text p) shapes.0 shapes.1)))

abbrev pub IsRefused : {A : Type 0} → (A → KeyPath → Option Cell) → List A → Error → Type 0
IsRefused look xs e = IsRefusedBehind [] look xs e

-- the same, where the values xs are at a key and the error names it
abbrev pub IsRefusedBelow : {A : Type 0} → List ℕ → (A → KeyPath → Option Cell) → List A → Error → Type 0
IsRefusedBelow key look xs e = IsRefusedBehind (key ∷ []) look xs e
