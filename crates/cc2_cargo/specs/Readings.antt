-- What is read so far, and what is still to be read: how a file and those that it includes are read in turn.
use Rattle.std.specs.Prelude.{◌≡◌, ◌⊎◌, ℕ, List, [], ◌∷◌, ◌++◌, map, reverse, true, false, Ok, Vec, String, string_bytes}
use Rattle.std.specs.BTreeSet.{BTreeSet, contains_text}
use Rattle.std.specs.declared.alloc.Global.{Global}
use Rattle.toml.specs.Data.{Members}
use Rattle.cc2_base.specs.Paths.{components_of, slash}
use Rattle.cc2_base.specs.Told.{Tree}
use Rattle.cc2_cargo.specs.declared.include.Include.{Include as CodeInclude}
use Rattle.cc2_cargo.specs.declared.expand.ConfigFile.{ConfigFile as CodeFile}
use Rattle.cc2_cargo.specs.declared.expand.FileFault.{FileFault}
use Rattle.cc2_cargo.specs.declared.expand.FileFault.TheVariants as fault
use Rattle.cc2_cargo.specs.Includes.{Include, include_view, includes_in}
use Rattle.cc2_cargo.specs.Expanding.{ConfigFile, IsAbsent, IsFileTable, IsWanted, config_file, included_from, is_read}

-- what is read so far, the first file first, and what is still to be read, the next one first
pub record ReadingState : Type 0 where
  pub read : List ConfigFile
  pub next : List Include

abbrev pub state_of : Vec CodeFile Global → Vec CodeInclude Global → ReadingState
state_of read next = record { read = map config_file read.items; next = reverse (map include_view next.items) }

-- the same before the next one is taken off
abbrev pub state_before : Vec CodeFile Global → CodeInclude → Vec CodeInclude Global → ReadingState
state_before read include next = record { read = map config_file read.items; next = include_view include ∷ reverse (map include_view next.items) }

-- a file that is absent is passed over
pub record PassesOver (fs : Tree) (s t : ReadingState) : Type 0 where
  pub include : Include
  pub others : List Include
  pub next : s.next ≡ include ∷ others
  pub absent : IsAbsent fs include
  pub after : t ≡ record { read = s.read; next = others }

-- a file is read, unless it was before; what it includes comes next, the last one first
pub record ReadsNext (fs : Tree) (s t : ReadingState) : Type 0 where
  pub include : Include
  pub others : List Include
  pub next : s.next ≡ include ∷ others
  pub wanted : IsWanted fs include
  pub fresh : is_read include.path s.read ≡ false
  pub members : Members
  pub table : IsFileTable fs include.path members
  pub includes : List Include
  pub listed : includes_in members ≡ Ok includes
  pub after : t ≡ record {
    read = s.read ++ record { path = include.path; members = members } ∷ [];
    next = reverse (map (included_from include.path) includes) ++ others;
  }

-- what a file includes is put after what is already there
pub record PutsIncludes (path : List ℕ) (members : Members) (before after : List Include) : Type 0 where
  pub includes : List Include
  pub listed : includes_in members ≡ Ok includes
  pub is : after ≡ before ++ map (included_from path) includes

abbrev pub Advances : Tree → ReadingState → ReadingState → Type 0
Advances fs s t = PassesOver fs s t ⊎ ReadsNext fs s t

-- from one state to another, by way of these
abbrev pub Reaches : Tree → ReadingState → List ReadingState → ReadingState → Type 0
Reaches fs s [] t = s ≡ t
Reaches fs s (u ∷ us) t = Advances fs s u × Reaches fs u us t

-- nothing is read yet, and these come next
abbrev pub start : List Include → ReadingState
start next = record { read = []; next = next }

-- the fault says that the file at a path is no TOML
abbrev pub SaysNoToml : List ℕ → FileFault → Type 0
SaysNoToml path why = (p : String Global) × (message : String Global) × (why ≡ fault.NoToml p message) × (string_bytes p ≡ path)

-- texts, each with a `/` behind it
abbrev pub ended_by_slashes : List (List ℕ) → List ℕ
ended_by_slashes [] = []
ended_by_slashes (text ∷ texts) = text ++ (slash ∷ ended_by_slashes texts)

-- the mark of a path, which is the same for all texts that are the same path
abbrev pub path_mark : List ℕ → List ℕ
path_mark path = ended_by_slashes (components_of path)

-- the mark of each file that is read is among these
abbrev pub AreMarked : BTreeSet (String Global) → List ConfigFile → Type 0
AreMarked marks read = (path : List ℕ) → is_read path read ≡ true → contains_text marks (path_mark path) ≡ true

-- so is that of the file at a path, which is read after them
abbrev pub AreMarkedWith : BTreeSet (String Global) → List ConfigFile → List ℕ → Type 0
AreMarkedWith marks read path = (members : Members) → AreMarked marks (read ++ record { path = path; members = members } ∷ [])

-- all files but the first
abbrev pub others_of : List ConfigFile → List ConfigFile
others_of [] = []
others_of (first ∷ others) = others

-- the mark of each file but the first is among these
abbrev pub AreOthersMarked : BTreeSet (String Global) → List ConfigFile → Type 0
AreOthersMarked marks read = AreMarked marks (others_of read)

-- so is that of the file at a path, which is read after them, unless it is the first
abbrev pub AreOthersMarkedWith : BTreeSet (String Global) → List ConfigFile → List ℕ → Type 0
AreOthersMarkedWith marks read path = (members : Members) → AreOthersMarked marks (read ++ record { path = path; members = members } ∷ [])
