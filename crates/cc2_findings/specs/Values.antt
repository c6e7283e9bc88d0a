-- Which keys of a file are set to values that a load refuses.
-- Cargo Reference, Configuration, configuration format.
use Rattle.std.specs.Prelude.{◌≡◌, ℕ, Bool, true, false, not, ◌&&◌, List, [], map, Contains, Option, Some, None, if◌then◌else◌}
use Rattle.toml.specs.Data.{Data, Members}
use Rattle.cc2_error.specs.Causes.{refusal_of, plain}
use Rattle.cc2_error.specs.declared.error.Error.{Error}
use Rattle.cc2_value.specs.Cells.{key_text}
use Rattle.cc2_value.specs.Ways.{Flaw, fault_cause}
use Rattle.cc2_de.specs.Config.{config_faults}
use Rattle.cc2_findings.specs.declared.alone.ValueFault.{ValueFault}
use Rattle.cc2_findings.specs.declared.place.Place.{Place}
use Rattle.cc2_findings.specs.declared.place.Place.TheVariants as at
use Rattle.cc2_findings.specs.declared.values.Load.{Load}
use Rattle.cc2_findings.specs.declared.values.Setting.{Setting}
use Rattle.cc2_findings.specs.Alone.{AreJudged, keys_of}
use Rattle.cc2_findings.specs.Kinds.{is_table}
use Rattle.cc2_findings.specs.Places.{below}

-- a load refuses the table with this error, or doesn't refuse it
abbrev pub IsRefusal : Members → Option Error → Type 0
IsRefusal ms None = config_faults ms ≡ []
IsRefusal ms (Some e) =
    (flaw : Flaw) × Contains (config_faults ms) flaw × (refusal_of e ≡ plain (fault_cause (map key_text flaw.0) flaw.1))

-- the value there is read as one, whatever keys it has
abbrev pub is_one : Place → Bool
is_one at.Whole = true
is_one at.Variable = true
is_one _ = false

-- a value is read at this place: not where it is a table of further keys
abbrev pub setting_in : Option Place → Bool → Option Setting
setting_in None is_table = None
setting_in (Some place) is_table = if is_table && not (is_one place) then None else Some record {}

-- a value is read at a key of a table at this place
abbrev pub setting_at : Place → List ℕ → Data → Option Setting
setting_at place key d = if is_one place then None else setting_in (below place key (is_table d)) (is_table d)

-- the keys of a file at which values are read
abbrev pub settings_of : Members → List (List (List ℕ))
settings_of ms = keys_of setting_at ms

-- whatever keys it sets, a load refuses a file with this table with this error, or doesn't refuse it
abbrev pub IsLoadRefusal : Load → List (List ℕ) → Members → Option Error → Type 0
IsLoadRefusal load keys ms e = IsRefusal ms e

-- of each of these keys in turn whether a load refuses a file that sets it as this one does, and nothing else, and why
abbrev pub AreRefused : Members → List (List (List ℕ)) → List ValueFault → Type 0
AreRefused ms keys found = AreJudged (λ path alone e. IsRefusal alone e) ms keys found
