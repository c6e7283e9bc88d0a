-- What is reported of what cargo-config2 0.1.45 and Cargo make of the same: where it differs, or that one alone refuses it.
use Rattle.std.specs.Prelude.{◌≡◌, ◌≢◌, ℕ, List, [], ◌∷◌, codes, map, Result, Ok, Err}
use Rattle.serde_json.specs.Data.{Data}
use Rattle.cc2_error.specs.Causes.{Refusal, memory}
use Rattle.cc2_reports.specs.Problems.{Subject, subject_at}
use Rattle.cc2_reports.specs.declared.lint.Lint.TheVariants as lint
use Rattle.cc2_compare.specs.Differences.{differences}
use Rattle.cc2_compare.specs.declared.part.Part.{Part}
use Rattle.cc2_compare.specs.declared.part.Part.TheVariants as part

-- the keys of all that is compared
abbrev pub part_keys : Part → List (List ℕ)
part_keys part.Config = []
part_keys part.Targets = codes "target" ∷ []

-- a report of the directory as a whole, at these keys
abbrev pub differing_subject : List ℕ → List (List ℕ) → Subject
differing_subject dir keys = subject_at dir lint.DiffersFromCargo keys

-- a report of targets that both refuse, which aren't compared; of a configuration none, since the findings of its files say why
abbrev pub of_both : List ℕ → List (List ℕ) → List Subject
of_both dir [] = []
of_both dir (key ∷ keys) = subject_at dir lint.CargoRefuses (key ∷ keys) ∷ []

module _ (dir : List ℕ) (keys : List (List ℕ)) where
  -- what is reported beside what cargo-config2 0.1.45 accepts: where Cargo has another value, or that it refuses it, for another
  -- cause than want of memory
  abbrev pub AreOfAccepted : Data → Result Data Refusal → List Subject → Type 0
  AreOfAccepted of_crate (Ok of_cargo) subjects = subjects ≡ map (differing_subject dir) (differences of_crate of_cargo)
  AreOfAccepted of_crate (Err refusal) subjects = (refusal.cause ≢ memory) × (subjects ≡ subject_at dir lint.CargoRefuses keys ∷ [])

  -- the same beside a refusal of cargo-config2 0.1.45
  abbrev pub AreOfRefused : Refusal → Result Data Refusal → List Subject → Type 0
  AreOfRefused refusal (Ok of_cargo) subjects = (refusal.cause ≢ memory) × (subjects ≡ subject_at dir lint.CargoAccepts keys ∷ [])
  AreOfRefused refusal (Err other) subjects = (refusal.cause ≢ memory) × (other.cause ≢ memory) × (subjects ≡ of_both dir keys)

  -- the same by what both come to
  abbrev pub AreBetween : Result Data Refusal → Result Data Refusal → List Subject → Type 0
  AreBetween (Ok of_crate) of_cargo subjects = AreOfAccepted of_crate of_cargo subjects
  AreBetween (Err refusal) of_cargo subjects = AreOfRefused refusal of_cargo subjects
