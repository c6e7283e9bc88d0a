-- The files that a configuration file expands to: itself and those that it includes.
-- Cargo Reference, Configuration, including extra configuration files.
use Rattle.std.specs.Prelude.{◌≡◌, ◌≢◌, ◌⊎◌, ℕ, List, [], ◌∷◌, ◌++◌, map, reverse, Bool, true, false, Option, Some, None, Ok, Err, String, string_bytes}
use Rattle.std.specs.List.{list_any}
use Rattle.std.specs.declared.alloc.Global.{Global}
use Rattle.toml.specs.Data.{Members}
use Rattle.toml.specs.View.{table_view}
use Rattle.cc2_base.specs.Paths.{joined, parent_of, same_path}
use Rattle.cc2_base.specs.Told.{Tree}
use Rattle.std.specs.Str.{IsUtf8}
use Rattle.toml.specs.Parse.{parse_document}
use Rattle.cc2_cargo.specs.declared.include.IncludeFault.{IncludeFault}
use Rattle.cc2_cargo.specs.declared.expand.ConfigFile.{ConfigFile as CodeFile}
use Rattle.cc2_cargo.specs.declared.expand.FileFault.{FileFault}
use Rattle.cc2_cargo.specs.declared.expand.FileFault.TheVariants as fault
use Rattle.cc2_cargo.specs.Includes.{Include, includes_in}

-- a file that is read: its path and its table's members
pub record ConfigFile : Type 0 where
  pub path : List ℕ
  pub members : Members

abbrev pub config_file : CodeFile → ConfigFile
config_file s = record { path = string_bytes s.path; members = table_view s.table }

-- the folder of a file
abbrev pub folder_or_none : Option (List ℕ) → List ℕ
folder_or_none None = []
folder_or_none (Some folder) = folder

-- an included file, seen from a folder
abbrev pub included_in : List ℕ → Include → Include
included_in folder include = record { path = joined folder include.path; optional = include.optional }

-- a file that the one at a path includes, seen from where that path is
abbrev pub included_from : List ℕ → Include → Include
included_from path include = included_in (folder_or_none (parent_of path)) include

-- whether a file is among those that are read
abbrev pub is_read : List ℕ → List ConfigFile → Bool
is_read path read = list_any (λ s. same_path s.path path) read

-- the file may be absent, and is
abbrev pub IsAbsent : Tree → Include → Type 0
IsAbsent fs include = (include.optional ≡ true) × (fs include.path ≡ None)

-- the file is there, or it has to be
abbrev pub IsWanted : Tree → Include → Type 0
IsWanted fs include = (include.optional ≡ true) → fs include.path ≡ None → ⊥

-- the file at a path has a table with these members
pub record IsFileTable (fs : Tree) (path : List ℕ) (members : Members) : Type 0 where
  pub bytes : List ℕ
  pub at : fs path ≡ Some (Some bytes)
  pub utf8 : IsUtf8 bytes
  pub parsed : parse_document bytes ≡ Some members

-- what an include comes to: nothing where the file is absent, else the file and what its includes come to, the last one first
mutual
  pub data Expansion : Type 0 where
    absent : Include → Expansion
    file : Include → Members → Expansions → Expansion

  pub data Expansions : Type 0 where
    no_expansions : Expansions
    expansion : Expansion → Expansions → Expansions

abbrev mutual
  pub IsExpansion : Tree → Include → Expansion → Type 0
  IsExpansion fs i (absent j) = (j ≡ i) × IsAbsent fs i
  IsExpansion fs i (file j members ts) =
      (j ≡ i) × IsWanted fs i × IsFileTable fs i.path members
      × ((includes : List Include) × (includes_in members ≡ Ok includes) × AreExpansions fs (reverse (map (included_from i.path) includes)) ts)

  pub AreExpansions : Tree → List Include → Expansions → Type 0
  AreExpansions fs [] no_expansions = Unit {0}
  AreExpansions fs [] (expansion t ts) = ⊥
  AreExpansions fs (i ∷ is) no_expansions = ⊥
  AreExpansions fs (i ∷ is) (expansion t ts) = IsExpansion fs i t × AreExpansions fs is ts

-- the files in it, the strongest first
abbrev mutual
  pub expanded_files : Expansion → List ConfigFile
  expanded_files (absent i) = []
  expanded_files (file i members ts) = record { path = i.path; members = members } ∷ files_in ts

  pub files_in : Expansions → List ConfigFile
  files_in no_expansions = []
  files_in (expansion t ts) = expanded_files t ++ files_in ts

-- no file is among those before it
abbrev pub AreNewAfter : List ConfigFile → List ConfigFile → Type 0
AreNewAfter before [] = Unit {0}
AreNewAfter before (s ∷ ss) = (is_read s.path before ≡ false) × AreNewAfter (before ++ s ∷ []) ss

-- a file that has to be there
abbrev pub required : List ℕ → Include
required path = record { path = path; optional = false }

-- the files that the one at a path expands to: itself first, then what its last include expands to, and so on to its
-- first one; all of them are different
abbrev pub AreExpanded : Tree → List ℕ → List ConfigFile → Type 0
AreExpanded fs path files = (t : Expansion) × IsExpansion fs (required path) t × (files ≡ expanded_files t) × AreNewAfter [] files

-- the files that these includes come to, one after another; all of them are different
abbrev pub AreIncluded : Tree → List Include → List ConfigFile → Type 0
AreIncluded fs next files = (ts : Expansions) × AreExpansions fs next ts × (files ≡ files_in ts) × AreNewAfter [] files

-- no bytes, no text or no TOML is at the path, which the fault has
abbrev pub IsTableFault : Tree → List ℕ → FileFault → Type 0
IsTableFault fs path (fault.Unreadable p) = (string_bytes p ≡ path) × ((bytes : List ℕ) → fs path ≢ Some (Some bytes))
IsTableFault fs path (fault.NotText p) = (string_bytes p ≡ path) × ((bytes : List ℕ) × (fs path ≡ Some (Some bytes)) × ¬ (IsUtf8 bytes))
IsTableFault fs path (fault.NoToml p message) =
    (string_bytes p ≡ path) × ((bytes : List ℕ) × (fs path ≡ Some (Some bytes)) × IsUtf8 bytes × (parse_document bytes ≡ None))
IsTableFault fs path _ = ⊥

-- the file's `include` has a fault
abbrev pub IsIncludeFault : Tree → List ℕ → FileFault → Type 0
IsIncludeFault fs path why =
    (p : String Global) × (cause : IncludeFault) × (members : Members) × (why ≡ fault.Include p cause) × (string_bytes p ≡ path)
    × IsFileTable fs path members × (includes_in members ≡ Err cause)

-- the file was read before
abbrev pub IsTwice : List ConfigFile → List ℕ → FileFault → Type 0
IsTwice read path why = (p : String Global) × (why ≡ fault.Twice p) × (string_bytes p ≡ path) × (is_read path read ≡ true)

-- why the next file isn't read after these
abbrev pub StopsAt : Tree → List ConfigFile → Include → FileFault → Type 0
StopsAt fs read include why = IsTableFault fs include.path why ⊎ (IsIncludeFault fs include.path why ⊎ IsTwice read include.path why)

-- from a file to one of its includes, after what stronger ones come to
pub record Turn : Type 0 where
  pub members : Members
  pub stronger : Expansions
  pub next : Include

-- from an include these turns lead to another one, after these files are read
abbrev pub LeadsTo : Tree → Include → List Turn → Include → List ConfigFile → Type 0
LeadsTo fs i [] j read = (i ≡ j) × (read ≡ [])
LeadsTo fs i (turn ∷ turns) j read =
    IsWanted fs i × IsFileTable fs i.path turn.members × ((includes : List Include) × (includes_in turn.members ≡ Ok includes)
    × ((before : List Include) × (behind : List Include) × (reverse (map (included_from i.path) includes) ≡ before ++ turn.next ∷ behind)
    × AreExpansions fs before turn.stronger
    × ((others : List ConfigFile) × (read ≡ record { path = i.path; members = turn.members } ∷ (files_in turn.stronger ++ others))
    × LeadsTo fs turn.next turns j others)))

-- why the files aren't read: of one that is included
pub record IsExpandCause (fs : Tree) (path : List ℕ) (why : FileFault) : Type 0 where
  pub turns : List Turn
  pub include : Include
  pub read : List ConfigFile
  pub leads : LeadsTo fs (required path) turns include read
  pub wanted : IsWanted fs include
  pub stops : StopsAt fs read include why

-- an include that is reached from some, after these files
pub record IsReachedFrom (fs : Tree) (next : List Include) (read : List ConfigFile) (j : Include) : Type 0 where
  pub before : List Include
  pub via : Include
  pub behind : List Include
  pub is : next ≡ before ++ via ∷ behind
  pub stronger : Expansions
  pub are : AreExpansions fs before stronger
  pub turns : List Turn
  pub others : List ConfigFile
  pub files : read ≡ files_in stronger ++ others
  pub leads : LeadsTo fs via turns j others

-- why the files of these includes aren't read: of one that is reached from them
pub record IsIncludesCause (fs : Tree) (next : List Include) (why : FileFault) : Type 0 where
  pub include : Include
  pub read : List ConfigFile
  pub reached : IsReachedFrom fs next read include
  pub wanted : IsWanted fs include
  pub stops : StopsAt fs read include why
