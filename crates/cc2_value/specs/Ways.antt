-- Ways of reading a TOML value: the cells that it has, and its faults.
use Rattle.std.specs.Prelude.{◌≡◌, ◌⊎◌, ℕ, List, [], ◌∷◌, ◌++◌, map, Contains, Option, Some, None}
use Rattle.toml.specs.Data.{Data}
use Rattle.cc2_error.specs.Causes.{Cause, wrong_type, empty_command, provider_args, provider_no_command, refusal_of, plain, memory}
use Rattle.cc2_error.specs.declared.error.Error.{Error}
use Rattle.cc2_value.specs.Cells.{Key, key_text, KeyPath, Cell, Single, Origin, Payload}

-- what is wrong with a value
pub data Fault : Type 0 where
  ill_typed : Fault
  -- a command without a word
  no_word : Fault
  -- a built-in provider, named here, with arguments
  extra_words : List ℕ → Fault
  -- `cargo:token-from-stdout` without a command
  no_command : Fault

-- how a refusal says it; the path is written by its keys
abbrev pub fault_cause : List (List ℕ) → Fault → Cause
fault_cause path ill_typed = wrong_type path
fault_cause path no_word = empty_command
fault_cause path (extra_words kind) = provider_args kind
fault_cause path no_command = provider_no_command

-- the place of a fault, and what it is
abbrev pub Flaw : Type 0
Flaw = KeyPath × Fault

pub record Way : Type 0 where
  -- the cell at a key path of a value, where it has no fault; each value in it has the origin
  pub cells : Option Origin → Data → KeyPath → Option Cell
  -- what is wrong with a value, and where
  pub faults : Data → List Flaw

-- one cell, at the value itself, where something is read
abbrev pub read_at : {A : Type 0} → (A → Cell) → Option A → KeyPath → Option Cell
read_at cell None p = None
read_at cell (Some a) [] = Some (cell a)
read_at cell (Some a) (k ∷ p) = None

-- a fault here where nothing is read
abbrev pub missing : {A : Type 0} → Option A → List Flaw
missing None = ([], ill_typed) ∷ []
missing (Some a) = []

-- a value that is read whole: how, and the cell of what is read
abbrev pub leaf_way : {A : Type 0} → (Data → Option A) → (Option Origin → A → Cell) → Way
leaf_way read cell = record { cells = λ origin d p. read_at (cell origin) (read d) p; faults = λ d. missing (read d) }

-- a single value
abbrev pub plain_cell : {A : Type 0} → (A → Payload) → Option Origin → A → Cell
plain_cell payload origin a = Single (record { payload = payload a; origin = origin })

-- the way of a single value, by what is read of it
abbrev pub plain_way : (Data → Option Payload) → Way
plain_way read = leaf_way read (plain_cell (λ x. x))

-- the same of a value that may be absent
abbrev pub cells_in : Way → Option Origin → Option Data → KeyPath → Option Cell
cells_in w origin None p = None
cells_in w origin (Some d) p = w.cells origin d p

abbrev pub faults_in : Way → Option Data → List Flaw
faults_in w None = []
faults_in w (Some d) = w.faults d

-- a value's faults, seen from the table that has it at the key
abbrev pub below : Key → List Flaw → List Flaw
below key flaws = map (λ f. (key ∷ f.0, f.1)) flaws

-- what is read shows these cells, and there is no fault
abbrev pub IsDecoded : {A : Type 0} → (A → KeyPath → Option Cell) → (KeyPath → Option Cell) → List Flaw → A → Type 0
IsDecoded look cells faults a = (faults ≡ []) × ((p : KeyPath) → look a p ≡ cells p)

-- memory is refused, or the error says one of the faults, with its path after these keys
abbrev pub IsFaultBehind : List (List ℕ) → List Flaw → Error → Type 0
IsFaultBehind keys flaws e = (refusal_of e ≡ plain memory) ⊎ ((f : Flaw) × Contains flaws f × (refusal_of e ≡ plain (fault_cause (keys ++ map key_text f.0) f.1)))
