-- What a visit makes of a table, field by field.
use Rattle.std.specs.Prelude.{◌≡◌, ℕ, List, [], ◌∷◌, Option, None, if◌then◌else◌}
use Rattle.std.specs.Str.{bytes_eq}
use Rattle.toml.specs.Data.{Members, get_member}
use Rattle.cc2_error.specs.declared.error.Error.{Error}
use Rattle.cc2_value.specs.Cells.{KeyPath, Cell, Origin, IsPointwise}
use Rattle.cc2_value.specs.Copies.{IsCopied}
use Rattle.cc2_value.specs.Refusals.{IsRefusedBelow}
use Rattle.cc2_value.specs.Shown.{Field, field_at}
use Rattle.cc2_value.specs.Ways.{Way, cells_in, faults_in, IsDecoded}

-- what is seen of a value
abbrev pub Look : Type 0
Look = KeyPath → Option Cell

-- what a visit makes of a field: M holds of its key, its way, and what a, b and c show there
pub record IsMade (M : List ℕ → Way → Look → Look → Look → Type 0) (key : List ℕ) (way : Way) (a b c : Look) : Type 0 where
  pub made : M key way a b c

-- the same where G holds of what a and c show alone
pub record IsGiven (G : Look → Look → Type 0) (a c : Look) : Type 0 where
  pub given : G a c

-- it is so at each field
abbrev pub AllMade : {A : Type 0} → List (Field A) → (List ℕ → Way → Look → Look → Look → Type 0) → A → A → A → Type 0
AllMade [] M a b c = Unit {0}
AllMade (f ∷ fs) M a b c = IsMade M f.key f.way (f.cells a) (f.cells b) (f.cells c) × AllMade fs M a b c

abbrev pub AllGiven : {A : Type 0} → List (Field A) → (Look → Look → Type 0) → A → A → Type 0
AllGiven [] G a c = Unit {0}
AllGiven (f ∷ fs) G a c = IsGiven G (f.cells a) (f.cells c) × AllGiven fs G a c

-- the way of the field at a key
abbrev pub way_for : {A : Type 0} → List (Field A) → List ℕ → Way
way_for [] k = record { cells = λ origin d p. None; faults = λ d. [] }
way_for (f ∷ fs) k = if bytes_eq f.key k then f.way else way_for fs k

-- at the field of this key, R holds of its key, its way, what a and b show there, and the error
abbrev pub IsRefusedAt : {A : Type 0} → List (Field A) → (List ℕ → Way → Look → Look → Error → Type 0) → A → A → List ℕ → Error → Type 0
IsRefusedAt fs R a b k e = R k (way_for fs k) (field_at fs a k) (field_at fs b k) e

-- no field of a shows a cell
abbrev pub FieldsAbsent : {A : Type 0} → List (Field A) → A → Type 0
FieldsAbsent [] a = Unit {0}
FieldsAbsent (f ∷ fs) a = ((p : KeyPath) → f.cells a p ≡ None) × FieldsAbsent fs a

-- each field of a is read of the member at its key
abbrev pub FieldsDecoded : {A : Type 0} → List (Field A) → Option Origin → Members → A → Type 0
FieldsDecoded [] origin ms a = Unit {0}
FieldsDecoded (f ∷ fs) origin ms a = IsDecoded f.cells (cells_in f.way origin (get_member f.key ms)) (faults_in f.way (get_member f.key ms)) a × FieldsDecoded fs origin ms a

-- each field of c is the pointwise map of that field of the values xs
abbrev pub FieldsJoined : {A : Type 0} → List (Field A) → List A → A → Type 0
FieldsJoined [] xs c = Unit {0}
FieldsJoined (f ∷ fs) xs c = IsPointwise f.cells xs c × FieldsJoined fs xs c

-- each field of c is a copy of that of a
abbrev pub FieldsCopied : {A : Type 0} → List (Field A) → Option Origin → A → A → Type 0
FieldsCopied [] origin a c = Unit {0}
FieldsCopied (f ∷ fs) origin a c = IsCopied f.cells origin a c × FieldsCopied fs origin a c

-- a field of the values xs is refused, below its key
abbrev pub IsFieldRefused : {A : Type 0} → List (Field A) → List A → Error → Type 0
IsFieldRefused fs xs e = (k : List ℕ) × IsRefusedBelow k (λ a p. field_at fs a k p) xs e
