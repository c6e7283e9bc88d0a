-- What a text is as a configuration, and why it may be none.
use Rattle.std.specs.Prelude.{◌≡◌, ◌⊎◌, ℕ, List, [], map, Contains, Option, Some, None}
use Rattle.toml.specs.Data.{Members}
use Rattle.toml.specs.Parse.{parse_document}
use Rattle.cc2_error.specs.Causes.{refused_text, Refusal, plain}
use Rattle.cc2_value.specs.Cells.{Cell, KeyPath, Origin, key_text}
use Rattle.cc2_value.specs.Ways.{Flaw, fault_cause}
use Rattle.cc2_de.specs.declared.config.Config.{Config}
use Rattle.cc2_de.specs.Config.{config_at, config_faults}
use Rattle.cc2_de.specs.ConfigFile.{member_cells_at}

-- the cells of a text, each value with this origin
abbrev pub text_as : List ℕ → Origin → KeyPath → Option Cell
text_as text origin p = member_cells_at origin (parse_document text) p

-- the text is a configuration
pub record IsConfigText (text : List ℕ) : Type 0 where
  pub members : Members
  pub parsed : parse_document text ≡ Some members
  pub faultless : config_faults members ≡ []

-- the configuration shows the cells of the text, each value with this origin
abbrev pub IsOfText : List ℕ → Origin → Config → Type 0
IsOfText text origin config = IsConfigText text × ((p : KeyPath) → config_at config p ≡ text_as text origin p)

-- it is no TOML document; the message is the TOML reader's
pub record IsNoToml (text : List ℕ) (refusal : Refusal) : Type 0 where
  pub parsed : parse_document text ≡ None
  pub message : List ℕ
  pub is : refusal ≡ plain (refused_text message)

-- a value in it has a fault
pub record IsFaultyText (text : List ℕ) (refusal : Refusal) : Type 0 where
  pub members : Members
  pub parsed : parse_document text ≡ Some members
  pub flaw : Flaw
  pub fault : Contains (config_faults members) flaw
  pub is : refusal ≡ plain (fault_cause (map key_text flaw.0) flaw.1)

-- why it is none
abbrev pub IsTextCause : List ℕ → Refusal → Type 0
IsTextCause text refusal = IsNoToml text refusal ⊎ IsFaultyText text refusal
