-- What is wrong in a file.
use Rattle.std.specs.Prelude.{◌≡◌, ◌⊎◌, ℕ, List, [], map, Option, Some, None}
use Rattle.std.specs.Str.{IsUtf8}
use Rattle.toml.specs.Data.{Members, no_members}
use Rattle.toml.specs.Parse.{parse_document}
use Rattle.toml.specs.View.{table_view}
use Rattle.cc2_base.specs.Told.{Tree}
use Rattle.cc2_de.specs.ConfigFile.{IsUnreadable}
use Rattle.cc2_findings.specs.declared.file.FileFault.{FileFault}
use Rattle.cc2_findings.specs.declared.file.FileFault.TheVariants.{Unreadable, NotText, NotToml, BadValue}
use Rattle.cc2_findings.specs.declared.file.FileFindings.{FileFindings}
use Rattle.cc2_findings.specs.declared.file.TomlFault.{TomlFault}
use Rattle.cc2_findings.specs.declared.place.Place.TheVariants as at
use Rattle.cc2_findings.specs.Findings.{findings_in}
use Rattle.cc2_findings.specs.FindingViews.{finding_view}
use Rattle.cc2_findings.specs.Kinds.{kind_at}
use Rattle.cc2_findings.specs.KeyFindings.{AreJudged, target_names, shown_fault}
use Rattle.cc2_findings.specs.Values.{AreRefused, IsRefusal, settings_of}
use Rattle.cc2_findings.specs.declared.alone.ValueFault.{ValueFault}

-- a value of the table has the fault, or none has one
abbrev pub IsValueFault : Members → Option FileFault → Type 0
IsValueFault ms None = IsRefusal ms None
IsValueFault ms (Some Unreadable) = ⊥
IsValueFault ms (Some NotText) = ⊥
IsValueFault ms (Some (NotToml fault)) = ⊥
IsValueFault ms (Some (BadValue e)) = IsRefusal ms (Some e)

-- the keys of a refused table that alone would be refused; a table that isn't refused has none
abbrev pub AreOfRefused : Members → Option FileFault → List ValueFault → Type 0
AreOfRefused ms None found = found ≡ []
AreOfRefused ms (Some fault) found = AreRefused ms (settings_of ms) found

-- what is wrong in a file of this table
pub record AreOfTable (ms : Members) (f : FileFindings) : Type 0 where
  pub fault : IsValueFault ms f.fault
  pub values : AreOfRefused ms f.fault f.values.items
  pub findings : map finding_view f.findings.items ≡ findings_in kind_at at.Config ms
  pub keys : AreJudged (target_names ms) (map shown_fault f.keys.items)
  pub table : table_view f.table ≡ ms

-- there is nothing but the fault
pub record IsAlone (fault : FileFault) (f : FileFindings) : Type 0 where
  pub fault_is : f.fault ≡ Some fault
  pub values : f.values.items ≡ []
  pub findings : f.findings.items ≡ []
  pub keys : f.keys.items ≡ []
  pub table : table_view f.table ≡ no_members

-- in a text: in its table, or that it has none
abbrev pub AreOfText : List ℕ → FileFindings → Type 0
AreOfText text f =
    ((ms : Members) × (parse_document text ≡ Some ms) × AreOfTable ms f)
    ⊎ ((parse_document text ≡ None) × ((fault : TomlFault) × IsAlone (NotToml fault) f))

-- in bytes: in their text, or that they are none
abbrev pub AreOfBytes : List ℕ → FileFindings → Type 0
AreOfBytes bytes f = (IsUtf8 bytes × AreOfText bytes f) ⊎ (¬ (IsUtf8 bytes) × IsAlone NotText f)

-- in the file at a path: in its bytes, or that there are none
abbrev pub IsLinted : Tree → List ℕ → FileFindings → Type 0
IsLinted fs path f =
    ((bytes : List ℕ) × (fs path ≡ Some (Some bytes)) × AreOfBytes bytes f)
    ⊎ (IsUnreadable fs path × IsAlone Unreadable f)

-- the bytes of the file at a path; none where it can't be read
abbrev pub IsContent : Tree → List ℕ → List ℕ → Type 0
IsContent fs path content = (fs path ≡ Some (Some content)) ⊎ (IsUnreadable fs path × (content ≡ []))
