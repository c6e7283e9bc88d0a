-- What is printed of a question over what is loaded by Cargo's own rules.
use Rattle.std.specs.Prelude.{◌≡◌, ℕ, List, Result}
use Rattle.cc2_error.specs.Causes.{Refusal}
use Rattle.cc2_base.specs.Told.{Tree}
use Rattle.cc2_base.specs.declared.machine.Machine.{Machine}
use Rattle.cc2_cargo.specs.RealPaths.{RealPathMap}
use Rattle.cc2_cargo_target.specs.Target.{RawSettings}
use Rattle.cc2_cli.specs.Endings.{outcome_text, outcome_status}
use Rattle.cc2_target_answers.specs.CargoLoads.{IsOverSettings}

module _ (fs : Tree) (reals : RealPathMap) (machine : Machine) (dir : List ℕ) (overrides : List (List ℕ)) where
  -- the text and the status are those of what it comes to
  abbrev pub PrintsOverSettings : {A : Type 0} → (A → List ℕ) → (RawSettings → Result A Refusal → Type 0) → List ℕ → ℕ → Type 0
  PrintsOverSettings {A} lines Is text status =
      (outcome : Result A Refusal) × IsOverSettings fs reals machine dir overrides Is outcome
      × (text ≡ outcome_text lines outcome) × (status ≡ outcome_status outcome)
