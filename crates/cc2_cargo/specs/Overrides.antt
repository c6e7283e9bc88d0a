-- Overrides of the command line: files with those that they include, and texts; and files loaded with them.
-- Cargo Reference, Configuration, command-line overrides.
use Rattle.std.specs.Prelude.{◌≡◌, ◌⊎◌, ◌==◌, ◌+◌, ℕ, List, [], ◌∷◌, ◌++◌, map, reverse, length, Contains, Bool, true, false, Option, Some, None, is_some, Ok, Err, String, string_bytes, if◌then◌else◌}
use Rattle.std.specs.List.{list_any}
use Rattle.std.specs.declared.alloc.Global.{Global}
use Rattle.toml.specs.Data.{Members}
use Rattle.cc2_base.specs.Paths.{joined, same_path}
use Rattle.cc2_base.specs.Told.{Tree}
use Rattle.cc2_value.specs.Cells.{command_line}
use Rattle.cc2_cargo.specs.Dotted.{IsAccepted, IsOverrideFault}
use Rattle.cc2_cargo.specs.Expanding.{AreExpanded, AreIncluded, ConfigFile, IsExpandCause, IsIncludesCause, included_in}
use Rattle.cc2_cargo.specs.Includes.{Include, includes_in}
use Rattle.cc2_cargo.specs.Loads.{AreFaultless, AreFileLayers, IsLayerCause, IsOutOfMemory, Layer, layer_cells, layer_of, turned}
use Rattle.cc2_cargo.specs.Merging.{IsRawMapOf}
use Rattle.cc2_cargo.specs.Raw.{Path, RawCell}
use Rattle.cc2_cargo.specs.declared.expand.FileFault.{FileFault}
use Rattle.cc2_cargo.specs.declared.expand.FileFault.TheVariants as file_fault
use Rattle.cc2_cargo.specs.declared.load.LoadFault.{LoadFault}
use Rattle.cc2_cargo.specs.declared.load.LoadFault.TheVariants as load_fault
use Rattle.cc2_cargo.specs.declared.overrides.OverridesRead.{OverridesRead as CodeRead}

-- a file, or anything else, is at the text of an override, seen from the directory
abbrev pub names_file : Tree → List ℕ → List ℕ → Bool
names_file fs dir text = if length text == 0 then false else is_some (fs (joined dir text))

-- the layer of an override that is a text, with its turn
abbrev pub text_layer : ℕ → Members → Layer
text_layer turn ms = record { origin = command_line None; turn = turn; members = ms }

abbrev pub path_of : ConfigFile → List ℕ
path_of s = s.path

-- the path of the first of these files that is among those read before
abbrev pub repeated : List (List ℕ) → List ConfigFile → Option (List ℕ)
repeated seen [] = None
repeated seen (s ∷ ss) = if list_any (λ p. same_path p s.path) seen then Some s.path else repeated seen ss

-- what is read of some overrides: the paths of the files of those that are files, and the layers, the last override's first
pub record OverridesRead : Type 0 where
  pub seen : List (List ℕ)
  pub layers : List Layer

abbrev pub read_of : CodeRead → OverridesRead
read_of r = record { seen = map string_bytes r.seen.items; layers = map layer_of r.layers.items }

abbrev pub none_read : OverridesRead
none_read = record { seen = []; layers = [] }

-- the file at a path is read with those that it includes; none was read for an earlier override
pub record ReadsFile (fs : Tree) (path : List ℕ) (s t : OverridesRead) : Type 0 where
  pub files : List ConfigFile
  pub expanded : AreExpanded fs path files
  pub new : repeated s.seen files ≡ None
  pub after : t ≡ record { seen = s.seen ++ map path_of files; layers = turned true (length s.layers) files ++ s.layers }

-- a text is read, and the files that it includes, seen from the directory
pub record ReadsText (fs : Tree) (dir text : List ℕ) (s t : OverridesRead) : Type 0 where
  pub members : Members
  pub accepted : IsAccepted text members
  pub includes : List Include
  pub listed : includes_in members ≡ Ok includes
  pub files : List ConfigFile
  pub included : AreIncluded fs (reverse (map (included_in dir) includes)) files
  pub after :
      t ≡ record {
        seen = s.seen;
        layers = (text_layer (length s.layers + length files) members ∷ turned true (length s.layers) files) ++ s.layers;
      }

-- an override is read: a file where one is there, else a text
abbrev pub ReadsOverride : Tree → List ℕ → List ℕ → OverridesRead → OverridesRead → Type 0
ReadsOverride fs dir text s t =
    ((names_file fs dir text ≡ true) × ReadsFile fs (joined dir text) s t) ⊎ ((names_file fs dir text ≡ false) × ReadsText fs dir text s t)

-- one after another
abbrev pub ReadsOverrides : Tree → List ℕ → List (List ℕ) → OverridesRead → OverridesRead → Type 0
ReadsOverrides fs dir [] s t = s ≡ t
ReadsOverrides fs dir (text ∷ texts) s t = (u : OverridesRead) × ReadsOverride fs dir text s u × ReadsOverrides fs dir texts u t

-- the layers of overrides, the last the strongest
abbrev pub AreOverrideLayers : Tree → List ℕ → List (List ℕ) → List Layer → Type 0
AreOverrideLayers fs dir texts layers = (t : OverridesRead) × ReadsOverrides fs dir texts none_read t × (layers ≡ t.layers)

-- the fault has the first path that was read for an earlier override
abbrev pub IsReadBefore : Tree → List ℕ → List (List ℕ) → FileFault → Type 0
IsReadBefore fs path seen why =
    (p : String Global) × (files : List ConfigFile) × (why ≡ file_fault.Twice p) × AreExpanded fs path files × (repeated seen files ≡ Some (string_bytes p))

-- why an override that is a file isn't read
abbrev pub IsFileOverrideCause : Tree → List ℕ → List (List ℕ) → LoadFault → Type 0
IsFileOverrideCause fs path seen (load_fault.File why) = IsExpandCause fs path why ⊎ IsReadBefore fs path seen why
IsFileOverrideCause fs path seen _ = ⊥

-- the files that a text includes aren't read
abbrev pub IsTextFileCause : Tree → List ℕ → List ℕ → FileFault → Type 0
IsTextFileCause fs dir text why =
    (members : Members) × (includes : List Include) × IsAccepted text members × (includes_in members ≡ Ok includes)
    × IsIncludesCause fs (reverse (map (included_in dir) includes)) why

-- why an override that is a text isn't read
abbrev pub IsTextOverrideCause : Tree → List ℕ → List ℕ → LoadFault → Type 0
IsTextOverrideCause fs dir text (load_fault.File why) = IsTextFileCause fs dir text why
IsTextOverrideCause fs dir text (load_fault.Override t why) = (string_bytes t ≡ text) × IsOverrideFault text why
IsTextOverrideCause fs dir text (load_fault.OverrideInclude t why) =
    (string_bytes t ≡ text) × ((members : Members) × IsAccepted text members × (includes_in members ≡ Err why))
IsTextOverrideCause fs dir text (load_fault.Layer why) = ⊥

-- why an override isn't read after others
abbrev pub IsOverrideCause : Tree → List ℕ → List ℕ → OverridesRead → LoadFault → Type 0
IsOverrideCause fs dir text s why =
    ((names_file fs dir text ≡ true) × IsFileOverrideCause fs (joined dir text) s.seen why)
    ⊎ ((names_file fs dir text ≡ false) × IsTextOverrideCause fs dir text why)

-- one of the overrides isn't read, after those before it
pub record IsOverridesCause (fs : Tree) (dir : List ℕ) (texts : List (List ℕ)) (why : LoadFault) : Type 0 where
  pub before : List (List ℕ)
  pub text : List ℕ
  pub left : List (List ℕ)
  pub are : texts ≡ before ++ text ∷ left
  pub read : OverridesRead
  pub reads : ReadsOverrides fs dir before none_read read
  pub cause : IsOverrideCause fs dir text read why

-- the layers of overrides, and after them those of the files of paths
abbrev pub AreLayersWith : Tree → List ℕ → List (List ℕ) → List (List ℕ) → List Layer → Type 0
AreLayersWith fs dir paths texts layers =
    (own : List Layer) × (files : List Layer) × (layers ≡ own ++ files) × AreOverrideLayers fs dir texts own × AreFileLayers fs 0 paths files

-- no value in these is wrong, and at each path their merged cell is shown
abbrev pub IsLoadWith : Tree → List ℕ → List (List ℕ) → List (List ℕ) → (Path → Option RawCell) → Type 0
IsLoadWith fs dir paths texts look =
    (layers : List Layer) × AreLayersWith fs dir paths texts layers × AreFaultless layers × IsRawMapOf layer_cells layers look

-- the files of a path aren't read, or the layers don't merge
abbrev pub IsFilesCause : Tree → List ℕ → List (List ℕ) → List (List ℕ) → LoadFault → Type 0
IsFilesCause fs dir paths texts (load_fault.File why) = (path : List ℕ) × Contains paths path × IsExpandCause fs path why
IsFilesCause fs dir paths texts (load_fault.Layer why) = (layers : List Layer) × AreLayersWith fs dir paths texts layers × IsLayerCause layers why
IsFilesCause fs dir paths texts _ = ⊥

-- why files and overrides aren't loaded
abbrev pub IsLoadWithCause : Tree → List ℕ → List (List ℕ) → List (List ℕ) → LoadFault → Type 0
IsLoadWithCause fs dir paths texts why = IsOutOfMemory why ⊎ (IsOverridesCause fs dir texts why ⊎ IsFilesCause fs dir paths texts why)

-- nothing is wrong with the files and the overrides
abbrev pub HasNoCauseWith : Tree → List ℕ → List (List ℕ) → List (List ℕ) → Type 0
HasNoCauseWith fs dir paths texts = (why : LoadFault) → IsLoadWithCause fs dir paths texts why → IsOutOfMemory why
