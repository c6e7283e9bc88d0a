-- What is printed of a directory by Cargo's own rules: of its files with those that they include, or of these under
-- variables and overrides. Cargo Reference, Configuration, hierarchical structure, including extra configuration files,
-- environment variables, command-line overrides.
use Rattle.std.specs.Prelude.{◌≡◌, ◌⊎◌, ℕ, false, List, Option, Result, Ok, Err}
use Rattle.serde_json.specs.Data.{Data}
use Rattle.cc2_error.specs.Causes.{Refusal, memory, plain}
use Rattle.cc2_base.specs.Homes.{cargo_home_of}
use Rattle.cc2_base.specs.Told.{Tree}
use Rattle.cc2_base.specs.declared.machine.Machine.{Machine}
use Rattle.cc2_cargo.specs.Raw.{Path, RawCell, raw_members_at}
use Rattle.cc2_cargo.specs.RealPaths.{RealPathMap}
use Rattle.cc2_cargo_answers.specs.Layers.{LayersShown, files, all}
use Rattle.cc2_cargo_answers.specs.RawJson.{IsJson, as_table}
use Rattle.cargo_rules.specs.Loads.{IsCargoCause, IsCargoMap, IsCauseUnder, IsMapUnder}
use Rattle.cc2_cargo_settings.specs.Named.{RawTable}
use Rattle.cc2_cargo_settings.specs.Under.{under}
use Rattle.cc2_cli.specs.ShowWords.{Request}
use Rattle.cc2_show_answers.specs.ShowQuestions.{IsKeyIn}
use Rattle.cc2_show_answers.specs.ToldRuns.{IsRefused, IsShownIn, Written, form_of}

-- what is printed of these values: what is at the pieces of the key in their JSON
abbrev pub IsShownOf : Request → List (List ℕ) → (Path → Option RawCell) → Written → Type 0
IsShownOf request pieces look w =
    (whole : Data) × IsJson (form_of request) false (as_table look) whole × IsShownIn request pieces whole w

-- an outcome as it is stated, or memory ran out
abbrev pub IsOrMemory : {A : Type 0} → (Result A Refusal → Type 0) → Result A Refusal → Type 0
IsOrMemory Is outcome = Is outcome ⊎ (outcome ≡ Err (plain memory))

-- of a result: the values are printed, or the error
abbrev pub IsPrinted : Request → List (List ℕ) → Result (Path → Option RawCell) Refusal → Written → Type 0
IsPrinted request pieces (Ok look) w = IsShownOf request pieces look w
IsPrinted request pieces (Err refusal) w = IsRefused refusal w

module _ (fs : Tree) (reals : RealPathMap) (machine : Machine) (dir : List ℕ) where
  -- what the files have, under the overrides where these count
  abbrev pub IsLoaded : LayersShown → (Path → Option RawCell) → Type 0
  IsLoaded files look = IsCargoMap fs reals dir (cargo_home_of dir machine) look
  IsLoaded (all os) look = IsMapUnder fs reals dir os (cargo_home_of dir machine) look

  -- why they aren't loaded
  abbrev pub IsUnloaded : LayersShown → Refusal → Type 0
  IsUnloaded files refusal = IsCargoCause fs reals dir (cargo_home_of dir machine) refusal
  IsUnloaded (all os) refusal = IsCauseUnder fs reals dir os (cargo_home_of dir machine) refusal

  -- what of loaded settings is shown where a key asks for it: all, or all under variables
  abbrev pub shown_settings : LayersShown → RawTable → Path → Result (Path → Option RawCell) Refusal
  shown_settings files settings pieces = Ok (raw_members_at settings)
  shown_settings (all os) settings pieces = under settings machine pieces

  -- what is shown of the layers of a directory, or why nothing is
  pub data IsOfLayers (layers : LayersShown) (pieces : List (List ℕ)) (outcome : Result (Path → Option RawCell) Refusal) : Type 0 where
    unloaded : (refusal : Refusal) → IsUnloaded layers refusal → outcome ≡ Err refusal → IsOfLayers layers pieces outcome
    loaded : (settings : RawTable) → IsLoaded layers (raw_members_at settings) → ((refusal : Refusal) → ¬ (IsUnloaded layers refusal))
        → outcome ≡ shown_settings layers settings pieces → IsOfLayers layers pieces outcome

module _ (fs : Tree) (reals : RealPathMap) (machine : Machine) (layers : LayersShown) (request : Request) where
  -- what the layers have at the pieces of the key is printed, or an error; or memory ran out
  pub data CargoGives (w : Written) : Type 0 where
    printed : (pieces : List (List ℕ)) (outcome : Result (Path → Option RawCell) Refusal) → IsKeyIn request.key pieces
        → IsOfLayers fs reals machine request.dir layers pieces outcome → IsPrinted request pieces outcome w → CargoGives w
    without_memory : IsRefused (plain memory) w → CargoGives w
