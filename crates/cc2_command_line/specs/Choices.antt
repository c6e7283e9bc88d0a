-- Values that are one of a few words.
use Rattle.std.specs.Prelude.{ℕ, Bool, true, false, List, [], ◌∷◌, codes, bytes_eq, Option, Some, None, Result, Ok, Err, if◌then◌else◌}
use Rattle.cc2_command_line.specs.Faults.{Fault, bad_value}
use Rattle.cc2_command_line.specs.declared.choice.Color.{Color}
use Rattle.cc2_command_line.specs.declared.choice.Color.TheVariants as color
use Rattle.cc2_command_line.specs.declared.choice.Rules.{Rules}
use Rattle.cc2_command_line.specs.declared.choice.Rules.TheVariants as rules
use Rattle.cc2_command_line.specs.declared.choice.ValueFormat.{ValueFormat}
use Rattle.cc2_command_line.specs.declared.choice.ValueFormat.TheVariants as of_value
use Rattle.cc2_command_line.specs.declared.choice.TargetFormat.{TargetFormat}
use Rattle.cc2_command_line.specs.declared.choice.TargetFormat.TheVariants as of_target
use Rattle.cc2_command_line.specs.declared.choice.LintFormat.{LintFormat}
use Rattle.cc2_command_line.specs.declared.choice.LintFormat.TheVariants as of_lint
use Rattle.cc2_command_line.specs.declared.choice.Level.{Level}
use Rattle.cc2_command_line.specs.declared.choice.Level.TheVariants as level
use Rattle.cc2_command_line.specs.declared.option.Setting.{Setting}

abbrev pub color_named : List ℕ → Option Color
color_named word =
    if bytes_eq word (codes "auto") then Some color.Auto
    else if bytes_eq word (codes "always") then Some color.Always
    else if bytes_eq word (codes "never") then Some color.Never
    else None

abbrev pub value_format_named : List ℕ → Option ValueFormat
value_format_named word =
    if bytes_eq word (codes "toml") then Some of_value.Toml
    else if bytes_eq word (codes "json") then Some of_value.Json
    else if bytes_eq word (codes "json-value") then Some of_value.JsonValue
    else None

abbrev pub rules_named : List ℕ → Option Rules
rules_named word =
    if bytes_eq word (codes "crate") then Some rules.Crate
    else if bytes_eq word (codes "cargo") then Some rules.Cargo
    else None

abbrev pub target_format_named : List ℕ → Option TargetFormat
target_format_named word =
    if bytes_eq word (codes "toml") then Some of_target.Toml
    else if bytes_eq word (codes "json") then Some of_target.Json
    else None

abbrev pub lint_format_named : List ℕ → Option LintFormat
lint_format_named word =
    if bytes_eq word (codes "text") then Some of_lint.Text
    else if bytes_eq word (codes "json") then Some of_lint.Json
    else if bytes_eq word (codes "sarif") then Some of_lint.Sarif
    else None

abbrev pub level_named : List ℕ → Option Level
level_named word =
    if bytes_eq word (codes "note") then Some level.Note
    else if bytes_eq word (codes "warning") then Some level.Warning
    else if bytes_eq word (codes "error") then Some level.Error
    else None

-- whether sources are merged
abbrev pub merged_named : List ℕ → Option Bool
merged_named word =
    if bytes_eq word (codes "yes") then Some true
    else if bytes_eq word (codes "no") then Some false
    else None

-- the words of each choice
abbrev pub color_names : List (List ℕ)
color_names = codes "auto" ∷ codes "always" ∷ codes "never" ∷ []

abbrev pub value_format_names : List (List ℕ)
value_format_names = codes "toml" ∷ codes "json" ∷ codes "json-value" ∷ []

abbrev pub rules_names : List (List ℕ)
rules_names = codes "crate" ∷ codes "cargo" ∷ []

abbrev pub target_format_names : List (List ℕ)
target_format_names = codes "toml" ∷ codes "json" ∷ []

abbrev pub lint_format_names : List (List ℕ)
lint_format_names = codes "text" ∷ codes "json" ∷ codes "sarif" ∷ []

abbrev pub level_names : List (List ℕ)
level_names = codes "note" ∷ codes "warning" ∷ codes "error" ∷ []

abbrev pub merged_names : List (List ℕ)
merged_names = codes "yes" ∷ codes "no" ∷ []

abbrev pub or_bad : {A : Type 0} → Setting → List ℕ → List (List ℕ) → Option A → Result A Fault
or_bad s value names None = Err (bad_value s value names)
or_bad s value names (Some a) = Ok a

-- what the value of an option chooses, which is one of these words; the default where it has none
abbrev pub chosen : {A : Type 0} → Setting → List (List ℕ) → (List ℕ → Option A) → A
    → Result (Option (List ℕ)) Fault → Result A Fault
chosen s names named default (Err fault) = Err fault
chosen s names named default (Ok None) = Ok default
chosen s names named default (Ok (Some value)) = or_bad s value names (named value)
