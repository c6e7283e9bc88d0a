-- How a run ends that shows a configuration in which it is known where each value was set, or what is at a
-- key of it. What lines of TOML look like is said nowhere here.
use Rattle.std.specs.Prelude.{◌≡◌, ◌⊎◌, ℕ, Bool, List, [], ◌++◌, codes, Option, Some, None, unwrap_or}
use Rattle.serde_json.specs.Data.{Data}
use Rattle.cc2_error.specs.Causes.{Refusal, memory, plain}
use Rattle.cc2_base.specs.Homes.{cargo_home_of}
use Rattle.cc2_base.specs.Told.{Tree}
use Rattle.cc2_base.specs.declared.machine.Machine.{Machine}
use Rattle.cc2_value.specs.Cells.{Cell, KeyPath}
use Rattle.cc2_env.specs.CommandLine.{Override}
use Rattle.cc2_de.specs.LoadFrom.{IsLoadFrom, IsLoadFromCause}
use Rattle.cc2_json.specs.Reader.{IsJsonOfLook}
use Rattle.cc2_json.specs.declared.form.Form.{Form}
use Rattle.cc2_json.specs.AtKey.{alone_at, at_key, json_line}
use Rattle.cc2_json.specs.TomlLines.{toml_lines}
use Rattle.cc2_cli.specs.Endings.{refusal_lines}
use Rattle.cc2_answers.specs.Environments.{IsBuilt, IsBuiltCause}
use Rattle.cc2_cli.specs.ShowWords.{Format, toml, json, json_value, Request, Stage, resolved, files, environment}

-- the map that is shown: that of the files, or the one under the variables and the overrides
abbrev pub IsStageMap : Tree → Machine → List ℕ → List Override → Stage → (KeyPath → Option Cell) → Type 0
IsStageMap fs machine dir os files m = IsLoadFrom fs dir (cargo_home_of dir machine) m
IsStageMap fs machine dir os resolved m = IsBuilt fs machine dir os m
IsStageMap fs machine dir os environment m = IsBuilt fs machine dir os m

-- why there is none
abbrev pub IsMapCause : Tree → Machine → List ℕ → List Override → Stage → Refusal → Type 0
IsMapCause fs machine dir os files refusal = IsLoadFromCause fs dir (cargo_home_of dir machine) refusal
IsMapCause fs machine dir os resolved refusal = IsBuiltCause fs machine dir os refusal
IsMapCause fs machine dir os environment refusal = IsBuiltCause fs machine dir os refusal

-- what a request writes of a configuration
abbrev pub form_of : Request → Form
form_of request = record { origins = request.origins; tokens = request.tokens }

-- the text of what is at a key, with where values were set or without
abbrev pub IsTextOf : Bool → Format → List (List ℕ) → Data → List ℕ → Type 0
IsTextOf origins toml pieces d text = text ≡ toml_lines origins pieces d
IsTextOf origins json pieces d text = text ≡ json_line (alone_at pieces d)
IsTextOf origins json_value pieces d text = text ≡ json_line d

-- the line that nothing is at a key
abbrev pub unset_line : List ℕ → List ℕ
unset_line key = codes "error: config value `" ++ (key ++ codes "` is not set\n")

-- what is written on each of two writers, and the status
pub record Written : Type 0 where
  pub out : List ℕ
  pub err : List ℕ
  pub status : ℕ

-- 1 and the lines of a refusal
pub record IsRefused (refusal : Refusal) (w : Written) : Type 0 where
  pub out : w.out ≡ refusal_lines refusal
  pub err : w.err ≡ []
  pub status : w.status ≡ 1

-- what is written of what is at a key: its text, or a line that nothing is there
abbrev pub WritesFound : Request → List (List ℕ) → Option Data → Written → Type 0
WritesFound request pieces None w = (w.out ≡ []) × (w.err ≡ unset_line (unwrap_or request.key [])) × (w.status ≡ 1)
WritesFound request pieces (Some d) w = IsTextOf request.origins request.format pieces d w.out × (w.err ≡ []) × (w.status ≡ 0)

-- what is written of a configuration's JSON at the pieces of a key
abbrev pub IsShownIn : Request → List (List ℕ) → Data → Written → Type 0
IsShownIn request pieces whole w = WritesFound request pieces (at_key request.origins pieces whole) w

module _ (request : Request) (pieces : List (List ℕ)) where
  -- what is written of a map: what is at the pieces of the key in its JSON, or a line that nothing does
  pub data IsShown (m : KeyPath → Option Cell) (w : Written) : Type 0 where
    found : (whole d : Data) → IsJsonOfLook (form_of request) m whole → at_key request.origins pieces whole ≡ Some d → IsTextOf request.origins request.format pieces d w.out
        → w.err ≡ [] → w.status ≡ 0 → IsShown m w
    unset : (whole : Data) → IsJsonOfLook (form_of request) m whole → at_key request.origins pieces whole ≡ None → w.out ≡ []
        → w.err ≡ unset_line (unwrap_or request.key []) → w.status ≡ 1 → IsShown m w

  -- a map is shown, and there is no cause; or the lines of a cause, or of out of memory
  pub data Tells (Is : (KeyPath → Option Cell) → Type 0) (Stands : Refusal → Type 0) (w : Written) : Type 0 where
    shown : (m : KeyPath → Option Cell) → Is m → ((refusal : Refusal) → ¬ (Stands refusal)) → IsShown m w → Tells Is Stands w
    refused : (refusal : Refusal) → (refusal ≡ plain memory) ⊎ Stands refusal → IsRefused refusal w → Tells Is Stands w
