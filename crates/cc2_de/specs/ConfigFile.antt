-- What a file is as a configuration, and why it may be none.
use Rattle.std.specs.Prelude.{◌≡◌, ◌≢◌, ◌⊎◌, ℕ, List, [], map, Contains, Option, Some, None}
use Rattle.std.specs.Str.{IsUtf8}
use Rattle.toml.specs.Data.{Members}
use Rattle.toml.specs.Parse.{parse_document}
use Rattle.cc2_error.specs.Causes.{unreadable, not_text, refused_text, Refusal, plain, in_context}
use Rattle.cc2_base.specs.Told.{Tree}
use Rattle.cc2_value.specs.Cells.{Cell, KeyPath, Origin, key_text, file}
use Rattle.cc2_value.specs.Ways.{Flaw, fault_cause}
use Rattle.cc2_de.specs.Config.{decoded, config_faults}
use Rattle.cc2_de.specs.Contexts.{read_line, parse_line}

-- these bytes are at the path, and are UTF-8
abbrev pub IsText : Tree → List ℕ → List ℕ → Type 0
IsText fs path bytes = (fs path ≡ Some (Some bytes)) × IsUtf8 bytes

abbrev pub bytes_members : Option (Option (List ℕ)) → Option Members
bytes_members (Some (Some bytes)) = parse_document bytes
bytes_members (Some None) = None
bytes_members None = None

-- the table of the file at a path
abbrev pub members_at : Tree → List ℕ → Option Members
members_at fs path = bytes_members (fs path)

-- the cells of a table, each value with this origin
abbrev pub member_cells_at : Origin → Option Members → KeyPath → Option Cell
member_cells_at origin None p = None
member_cells_at origin (Some members) p = decoded (Some origin) members p

-- the cells of the file at a path, each value with this origin
abbrev pub file_as : Tree → List ℕ → Origin → KeyPath → Option Cell
file_as fs path origin p = member_cells_at origin (members_at fs path) p

-- the same where the path is the origin
abbrev pub file_at : Tree → List ℕ → KeyPath → Option Cell
file_at fs path p = file_as fs path (file path) p

-- no bytes are at the path
abbrev pub IsUnreadable : Tree → List ℕ → Type 0
IsUnreadable fs path = (bytes : List ℕ) → fs path ≢ Some (Some bytes)

-- bytes are there that are not UTF-8
abbrev pub IsNotText : Tree → List ℕ → Type 0
IsNotText fs path = (bytes : List ℕ) × (fs path ≡ Some (Some bytes)) × ¬ (IsUtf8 bytes)

-- the file at a path is a configuration
pub record IsConfig (fs : Tree) (path : List ℕ) : Type 0 where
  pub bytes : List ℕ
  pub text : IsText fs path bytes
  pub members : Members
  pub parsed : parse_document bytes ≡ Some members
  pub faultless : config_faults members ≡ []

-- a fault of a value in the file at a path, as a refusal says it
pub record IsFaultIn (fs : Tree) (path : List ℕ) (refusal : Refusal) : Type 0 where
  pub bytes : List ℕ
  pub text : IsText fs path bytes
  pub members : Members
  pub parsed : parse_document bytes ≡ Some members
  pub flaw : Flaw
  pub fault : Contains (config_faults members) flaw
  pub is : refusal ≡ in_context (parse_line path) (plain (fault_cause (map key_text flaw.0) flaw.1))

-- the file's text is no TOML document; the message is the TOML reader's
pub record IsRefusedText (fs : Tree) (path : List ℕ) (refusal : Refusal) : Type 0 where
  pub bytes : List ℕ
  pub text : IsText fs path bytes
  pub parsed : parse_document bytes ≡ None
  pub message : List ℕ
  pub is : refusal ≡ in_context (parse_line path) (plain (refused_text message))

-- why the file at a path is refused
abbrev pub IsFileCause : Tree → List ℕ → Refusal → Type 0
IsFileCause fs path refusal =
    (IsUnreadable fs path × (refusal ≡ in_context (read_line path) (plain unreadable)))
    ⊎ ((IsNotText fs path × (refusal ≡ in_context (read_line path) (plain not_text)))
    ⊎ (IsRefusedText fs path refusal ⊎ IsFaultIn fs path refusal))
