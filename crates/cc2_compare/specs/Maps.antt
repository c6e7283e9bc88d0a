-- The two configurations of a directory as JSON, with each token and without where values are set.
use Rattle.std.specs.Prelude.{false, true, ℕ, List, [], Option, Result, Ok, Err}
use Rattle.serde_json.specs.Data.{Data}
use Rattle.cc2_error.specs.Causes.{Refusal}
use Rattle.cc2_answers.specs.Environments.{IsBuilt, IsBuiltCause}
use Rattle.cc2_base.specs.Told.{Tree}
use Rattle.cc2_base.specs.declared.machine.Machine.{Machine}
use Rattle.cc2_cargo.specs.Raw.{Path, RawCell}
use Rattle.cc2_cargo.specs.RealPaths.{RealPathMap}
use Rattle.cc2_cargo_answers.specs.Gives.{IsOfLayers}
use Rattle.cc2_cargo_answers.specs.Layers.{all}
use Rattle.cc2_cargo_answers.specs.RawJson.{IsJson, as_table}
use Rattle.cc2_json.specs.Reader.{IsJsonOfLook}
use Rattle.cc2_json.specs.declared.form.Form.{Form}
use Rattle.cc2_value.specs.Cells.{Cell, KeyPath}

abbrev pub form : Form
form = record { origins = false; tokens = true }

-- the JSON of what cargo-config2 0.1.45 has: the files under the variables
abbrev pub IsCrateJson : Tree → Machine → List ℕ → Data → Type 0
IsCrateJson fs machine dir d = (m : KeyPath → Option Cell) × IsBuilt fs machine dir [] m × IsJsonOfLook form m d

-- the JSON of what Cargo has: the files with those that they include, under the variables
abbrev pub IsCargoJson : Tree → RealPathMap → Machine → List ℕ → Data → Type 0
IsCargoJson fs reals machine dir d =
    (look : Path → Option RawCell) × IsOfLayers fs reals machine dir (all []) [] (Ok look) × IsJson form false (as_table look) d

-- why Cargo refuses the configuration
abbrev pub IsCargoRefusal : Tree → RealPathMap → Machine → List ℕ → Refusal → Type 0
IsCargoRefusal fs reals machine dir refusal = IsOfLayers fs reals machine dir (all []) [] (Err refusal)

-- what cargo-config2 0.1.45 makes of the directory: its configuration, where there is no cause to refuse it; or such a cause
abbrev pub IsOfCrateFiles : Tree → Machine → List ℕ → Result Data Refusal → Type 0
IsOfCrateFiles fs machine dir (Ok d) = IsCrateJson fs machine dir d × ((refusal : Refusal) → ¬ (IsBuiltCause fs machine dir [] refusal))
IsOfCrateFiles fs machine dir (Err refusal) = IsBuiltCause fs machine dir [] refusal

-- what Cargo makes of it
abbrev pub IsOfCargoFiles : Tree → RealPathMap → Machine → List ℕ → Result Data Refusal → Type 0
IsOfCargoFiles fs reals machine dir (Ok d) = IsCargoJson fs reals machine dir d
IsOfCargoFiles fs reals machine dir (Err refusal) = IsCargoRefusal fs reals machine dir refusal
