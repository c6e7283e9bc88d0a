-- The parts of one kind.
use Rattle.std.specs.Prelude.{ℕ, Bool, true, false, List, [], ◌∷◌, flat_map, Option, Some, None, Result, Ok, Err, if◌then◌else◌}
use Rattle.std.specs.List.{list_any}
use Rattle.cc2_command_line.specs.Faults.{Fault, twice}
use Rattle.cc2_command_line.specs.Parts.{Part, flag, setting, operand}
use Rattle.cc2_command_line.specs.declared.option.Flag.{Flag}
use Rattle.cc2_command_line.specs.declared.option.Flag.TheVariants as a_flag
use Rattle.cc2_command_line.specs.declared.option.Setting.{Setting}
use Rattle.cc2_command_line.specs.declared.option.Setting.TheVariants as a_setting

abbrev pub list_of : Option (List ℕ) → List (List ℕ)
list_of None = []
list_of (Some text) = text ∷ []

abbrev pub operand_in : Part → Option (List ℕ)
operand_in (operand word) = Some word
operand_in part = None

-- the operands, in their order
abbrev pub operands : List Part → List (List ℕ)
operands parts = flat_map (λ part. list_of (operand_in part)) parts

abbrev pub is_same : Setting → Setting → Bool
is_same a_setting.Directory a_setting.Directory = true
is_same a_setting.Config a_setting.Config = true
is_same a_setting.Color a_setting.Color = true
is_same a_setting.Format a_setting.Format = true
is_same a_setting.Merged a_setting.Merged = true
is_same a_setting.Rules a_setting.Rules = true
is_same a_setting.Deny a_setting.Deny = true
is_same a_setting.Allow a_setting.Allow = true
is_same a_setting.Target a_setting.Target = true
is_same one other = false

abbrev pub value_in : Setting → Part → Option (List ℕ)
value_in s (setting found value) = if is_same s found then Some value else None
value_in s part = None

-- the values of an option, in their order
abbrev pub values : Setting → List Part → List (List ℕ)
values s parts = flat_map (λ part. list_of (value_in s part)) parts

-- the value of an option that has at most one
abbrev pub only : Setting → List (List ℕ) → Result (Option (List ℕ)) Fault
only s [] = Ok None
only s (value ∷ []) = Ok (Some value)
only s (value ∷ (next ∷ values)) = Err (twice s)

abbrev pub single : Setting → List Part → Result (Option (List ℕ)) Fault
single s parts = only s (values s parts)

abbrev pub is_flag : Flag → Part → Bool
is_flag a_flag.Help (flag a_flag.Help) = true
is_flag a_flag.Version (flag a_flag.Version) = true
is_flag a_flag.Quiet (flag a_flag.Quiet) = true
is_flag a_flag.ShowOrigin (flag a_flag.ShowOrigin) = true
is_flag a_flag.Files (flag a_flag.Files) = true
is_flag a_flag.Resolved (flag a_flag.Resolved) = true
is_flag a_flag.Tokens (flag a_flag.Tokens) = true
is_flag a_flag.BuildScripts (flag a_flag.BuildScripts) = true
is_flag a_flag.Compare (flag a_flag.Compare) = true
is_flag a_flag.NoPrograms (flag a_flag.NoPrograms) = true
is_flag f part = false

abbrev pub has_flag : Flag → List Part → Bool
has_flag f parts = list_any (is_flag f) parts
