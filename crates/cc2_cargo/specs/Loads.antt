-- What layers of configuration have at each key, each by itself and merged, and files loaded with those that they include.
-- Cargo Reference, Configuration, hierarchical structure, including extra configuration files.
use Rattle.std.specs.Prelude.{◌≡◌, ◌≢◌, ℕ, ◌+◌, Bool, true, false, List, [], ◌∷◌, length, codes, Contains, Option, Some, map, if◌then◌else◌, ◌⊎◌, ◌++◌}
use Rattle.std.specs.Str.{bytes_eq}
use Rattle.toml.specs.Data.{Members, no_members, member}
use Rattle.toml.specs.View.{table_view}
use Rattle.cc2_error.specs.Causes.{refusal_of, memory}
use Rattle.cc2_error.specs.declared.error.Error.{Error}
use Rattle.cc2_base.specs.Told.{Tree}
use Rattle.cc2_value.specs.Cells.{Origin, command_line, file}
use Rattle.cc2_value.specs.Values.{origin_of}
use Rattle.cc2_cargo.specs.Expanding.{ConfigFile, AreExpanded, IsExpandCause}
use Rattle.cc2_cargo.specs.Merging.{IsRawMapOf, IsRawMixed, IsRawOver, is_command_path}
use Rattle.cc2_cargo.specs.Raw.{RawCell, Path}
use Rattle.cc2_cargo.specs.RawReading.{IsWrong, raw_cells_in, wrong_in}
use Rattle.cc2_cargo.specs.declared.expand.FileFault.TheVariants as file_fault
use Rattle.cc2_cargo.specs.declared.layer.Layer.{Layer as CodeLayer}
use Rattle.cc2_cargo.specs.declared.layer.LayerFault.{LayerFault}
use Rattle.cc2_cargo.specs.declared.layer.LayerFault.TheVariants as fault
use Rattle.cc2_cargo.specs.declared.load.LoadFault.{LoadFault}
use Rattle.cc2_cargo.specs.declared.load.LoadFault.TheVariants as load_fault

-- the members without the one at a key
abbrev pub without : List ℕ → Members → Members
without k no_members = no_members
without k (member l d ms) = if bytes_eq k l then ms else member l d (without k ms)

-- what is merged: members, where their values are set, and the layer's turn
pub record Layer : Type 0 where
  pub origin : Origin
  pub turn : ℕ
  pub members : Members

abbrev pub layer_of : CodeLayer → Layer
layer_of l = record { origin = origin_of l.origin.definition; turn = l.origin.turn; members = table_view l.table }

-- where a file sets its values: by its path, or for the command line
abbrev pub file_origin : Bool → List ℕ → Origin
file_origin false path = file path
file_origin true path = command_line (Some path)

-- the layers of a file that isn't of the command line, or is, and of those that it includes, the strongest first: the weakest has
-- this turn, and the strongest the last one
abbrev pub turned : Bool → ℕ → List ConfigFile → List Layer
turned of_override turn [] = []
turned of_override turn (s ∷ ss) =
    record { origin = file_origin of_override s.path; turn = turn + length ss; members = s.members } ∷ turned of_override turn ss

-- what a layer has at each path, but at `include`; each value has the layer's origin
abbrev pub layer_cells : Layer → Path → Option RawCell
layer_cells l p = raw_cells_in (record { origin = Some l.origin; turn = l.turn }) (without (codes "include") l.members) p

-- the paths of the values in it that no key may have
abbrev pub layer_faults : Layer → List Path
layer_faults l = wrong_in (without (codes "include") l.members)

-- the layers in two groups: at each path the map of the stronger group, over that of the weaker one, is this
abbrev pub IsOfGroups : List Layer → (Path → Option RawCell) → Type 0
IsOfGroups layers look =
    (stronger weaker : List Layer) (strong weak : Path → Option RawCell) → layers ≡ stronger ++ weaker → IsRawMapOf layer_cells stronger strong
    → IsRawMapOf layer_cells weaker weak → IsRawOver is_command_path strong weak look

-- no value in any of the layers is wrong
abbrev pub AreFaultless : List Layer → Type 0
AreFaultless [] = Unit {0}
AreFaultless (l ∷ ls) = (layer_faults l ≡ []) × AreFaultless ls

-- no value of the layer is wrong, and the new look has what it has over what weaker layers have
abbrev pub IsPutOver : Layer → (Path → Option RawCell) → (Path → Option RawCell) → Type 0
IsPutOver l weaker new = (layer_faults l ≡ []) × IsRawOver is_command_path (layer_cells l) weaker new

-- a value in the layer is one that no key may have, and the error names its path
abbrev pub IsWrongValue : Layer → Origin → Error → Type 0
IsWrongValue l origin e = (origin ≡ l.origin) × ((refusal_of e).cause ≢ memory) × IsWrong (layer_faults l) e

-- the layer doesn't merge with what weaker ones have, and the error names the path at which two shapes meet
abbrev pub IsMixedLayer : Layer → (Path → Option RawCell) → Origin → Error → Type 0
IsMixedLayer l weaker origin e = (origin ≡ l.origin) × IsRawMixed is_command_path (layer_cells l) weaker e

-- why a layer isn't put over what weaker ones have
abbrev pub IsLayerFault : Layer → (Path → Option RawCell) → LayerFault → Type 0
IsLayerFault l weaker fault.Memory = Unit {0}
IsLayerFault l weaker (fault.Value definition e) = IsWrongValue l (origin_of definition) e
IsLayerFault l weaker (fault.Mixed definition e) = IsMixedLayer l weaker (origin_of definition) e

-- one of the layers doesn't merge with those after it, which do
pub record IsMixedAmong (ls : List Layer) (origin : Origin) (e : Error) : Type 0 where
  pub before : List Layer
  pub one : Layer
  pub weaker : List Layer
  pub are : ls ≡ before ++ one ∷ weaker
  pub look : Path → Option RawCell
  pub map : IsRawMapOf layer_cells weaker look
  pub mixed : IsMixedLayer one look origin e

-- why the layers don't merge
abbrev pub IsLayerCause : List Layer → LayerFault → Type 0
IsLayerCause ls fault.Memory = Unit {0}
IsLayerCause ls (fault.Value definition e) = (l : Layer) × Contains ls l × IsWrongValue l (origin_of definition) e
IsLayerCause ls (fault.Mixed definition e) = IsMixedAmong ls (origin_of definition) e

-- the layers of the files that each of these expands to, one path after another, from this turn on
abbrev pub AreFileLayers : Tree → ℕ → List (List ℕ) → List Layer → Type 0
AreFileLayers fs turn [] layers = layers ≡ []
AreFileLayers fs turn (path ∷ paths) layers =
    (first : List ConfigFile) × (others : List Layer) × (layers ≡ turned false turn first ++ others) × AreExpanded fs path first
    × AreFileLayers fs (turn + length first) paths others

-- no value in them is wrong, and at each path their merged cell is shown
abbrev pub IsRawLoad : Tree → List (List ℕ) → (Path → Option RawCell) → Type 0
IsRawLoad fs paths look =
    (layers : List Layer) × AreFileLayers fs 0 paths layers × AreFaultless layers × IsRawMapOf layer_cells layers look

-- why the files aren't loaded
abbrev pub IsRawLoadCause : Tree → List (List ℕ) → LoadFault → Type 0
IsRawLoadCause fs paths (load_fault.File why) = (why ≡ file_fault.Memory) ⊎ ((path : List ℕ) × Contains paths path × IsExpandCause fs path why)
IsRawLoadCause fs paths (load_fault.Layer why) = (layers : List Layer) × AreFileLayers fs 0 paths layers × IsLayerCause layers why
IsRawLoadCause fs paths _ = ⊥

abbrev pub IsOutOfMemory : LoadFault → Type 0
IsOutOfMemory why = (why ≡ load_fault.File file_fault.Memory) ⊎ (why ≡ load_fault.Layer fault.Memory)

-- nothing is wrong with the files
abbrev pub HasNoCause : Tree → List (List ℕ) → Type 0
HasNoCause fs paths = (why : LoadFault) → IsRawLoadCause fs paths why → IsOutOfMemory why
