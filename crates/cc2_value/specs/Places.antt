-- From which place on a list of values has no pointwise map.
use Rattle.std.specs.Prelude.{◌≡◌, ℕ, ◌+◌, List, take, map, Option, Ok, Err}
use Rattle.cc2_error.specs.Causes.{refusal_of, plain, mixed, memory}
use Rattle.cc2_error.specs.declared.error.Shape.{Shape}
use Rattle.cc2_error.specs.declared.error.Error.{Error}
use Rattle.cc2_value.specs.Cells.{KeyPath, Cell, key_text, joined, cells_at}
use Rattle.cc2_value.specs.declared.merge_fault.MergeAllFault.{MergeAllFault}
use Rattle.cc2_value.specs.declared.merge_fault.MergeAllFault.TheVariants as fault

-- the values have a pointwise map
abbrev pub HaveMap : {A : Type 0} → (A → KeyPath → Option Cell) → List A → Type 0
HaveMap look xs = (p : KeyPath) → (o : Option Cell) × (joined (cells_at look p xs) ≡ Ok o)

-- at the path two shapes meet, and the error says so
abbrev pub IsMixedBy : {A : Type 0} → (A → KeyPath → Option Cell) → List A → KeyPath → Shape × Shape → Error → Type 0
IsMixedBy look xs path shapes e = (joined (cells_at look path xs) ≡ Err shapes) × (refusal_of e ≡ plain (mixed (map key_text path) shapes.0 shapes.1))

-- place, from 0, is the least at which the values up to and with it have no pointwise map: those before
-- it have one, and with it two shapes meet, at the path of the error
pub record IsMixedFrom {A : Type 0} (look : A → KeyPath → Option Cell) (xs : List A) (place : ℕ) (e : Error) : Type 0 where
  pub before : HaveMap look (take place xs)
  pub path : KeyPath
  pub shapes : Shape × Shape
  pub meet : IsMixedBy look (take (place + 1) xs) path shapes e

-- why the values aren't joined
abbrev pub IsUnjoined : {A : Type 0} → (A → KeyPath → Option Cell) → List A → MergeAllFault → Type 0
IsUnjoined look xs fault.Memory = Unit {0}
IsUnjoined look xs (fault.Mixed place e) = IsMixedFrom look xs place e

-- two values are mixed at a place
abbrev pub IsMixedAfter : {A : Type 0} → (A → KeyPath → Option Cell) → List A → ℕ → MergeAllFault → Type 0
IsMixedAfter look two place fault.Memory = Unit {0}
IsMixedAfter look two place (fault.Mixed p e) = (p ≡ place) × ((path : KeyPath) × (shapes : Shape × Shape) × IsMixedBy look two path shapes e)

-- a refusal at a place, or out of memory
abbrev pub IsFaultAt : ℕ → Error → MergeAllFault → Type 0
IsFaultAt place e fault.Memory = Unit {0}
IsFaultAt place e (fault.Mixed p f) = (p ≡ place) × (f ≡ e) × ((refusal_of e).cause ≡ memory → ⊥)
