-- A command with its options.
use Rattle.std.specs.Prelude.{ℕ, Bool, true, false, List, [], ◌∷◌, codes, bytes_eq, not, ◌&&◌, ◌||◌, find, Option, Some, None, Result, Ok, Err, if◌then◌else◌}
use Rattle.cc2_command_line.specs.Choices.{chosen, level_named, lint_format_named, merged_named, rules_named, target_format_named, value_format_named}
use Rattle.cc2_command_line.specs.Choices.{level_names, lint_format_names, merged_names, rules_names, target_format_names, value_format_names}
use Rattle.cc2_command_line.specs.Faults.{Fault, conflict, and_then, unexpected, unfit_flag, unfit_setting, unless}
use Rattle.cc2_command_line.specs.Parts.{Part, flag, setting, operand}
use Rattle.cc2_command_line.specs.Selected.{has_flag, single, values}
use Rattle.cc2_command_line.specs.declared.choice.Level.{Level}
use Rattle.cc2_command_line.specs.declared.choice.Level.TheVariants as level
use Rattle.cc2_command_line.specs.declared.choice.LintFormat.{LintFormat}
use Rattle.cc2_command_line.specs.declared.choice.LintFormat.TheVariants as of_lint
use Rattle.cc2_command_line.specs.declared.choice.Rules.{Rules}
use Rattle.cc2_command_line.specs.declared.choice.Rules.TheVariants as rules
use Rattle.cc2_command_line.specs.declared.choice.Stage.{Stage}
use Rattle.cc2_command_line.specs.declared.choice.Stage.TheVariants as stage
use Rattle.cc2_command_line.specs.declared.choice.TargetFormat.{TargetFormat}
use Rattle.cc2_command_line.specs.declared.choice.TargetFormat.TheVariants as of_target
use Rattle.cc2_command_line.specs.declared.choice.ValueFormat.{ValueFormat}
use Rattle.cc2_command_line.specs.declared.choice.ValueFormat.TheVariants as of_value
use Rattle.cc2_command_line.specs.declared.command.Verb.{Verb}
use Rattle.cc2_command_line.specs.declared.command.Verb.TheVariants as verb
use Rattle.cc2_command_line.specs.declared.option.Flag.{Flag}
use Rattle.cc2_command_line.specs.declared.option.Flag.TheVariants as a_flag
use Rattle.cc2_command_line.specs.declared.option.Setting.{Setting}
use Rattle.cc2_command_line.specs.declared.option.Setting.TheVariants as a_setting

-- what `get` prints
pub record Get : Type 0 where
  -- the key whose value is printed
  pub key : Option (List ℕ)
  pub stage : Stage
  -- the rules by which files are read
  pub rules : Rules
  pub format : ValueFormat
  -- whether it is one configuration, or each source by itself
  pub merged : Bool
  -- whether each value is printed with where it was set
  pub origins : Bool
  pub tokens : Bool

-- what `target` prints: these targets, or those of the configuration
pub record Targets : Type 0 where
  pub triples : List (List ℕ)
  -- whether it is the settings of build scripts and procedural macros instead
  pub build_scripts : Bool
  -- the rules by which their settings are found
  pub rules : Rules
  pub format : TargetFormat

-- what `lint` prints
pub record Lint : Type 0 where
  -- directories and files, or the current directory
  pub paths : List (List ℕ)
  -- the level from which on the status is 1
  pub deny : Level
  pub format : LintFormat
  -- the lints that aren't reported
  pub allowed : List (List ℕ)
  -- the targets for which `cfg(..)` tables are compared
  pub targets : List (List ℕ)
  -- whether it is reported where cargo-config2 0.1.45 and Cargo differ
  pub compares : Bool

pub data Command : Type 0 where
  get : Get → Command
  target : Targets → Command
  rustc : Rules → Command
  host : Rules → Command
  version : Command
  lint : Lint → Command

-- the command of this name
abbrev pub verb_named : List ℕ → Option Verb
verb_named word =
    if bytes_eq word (codes "get") then Some verb.Get
    else if bytes_eq word (codes "target") then Some verb.Target
    else if bytes_eq word (codes "rustc") then Some verb.Rustc
    else if bytes_eq word (codes "host") then Some verb.Host
    else if bytes_eq word (codes "version") then Some verb.Version
    else if bytes_eq word (codes "lint") then Some verb.Lint
    else None

abbrev pub is_get : Verb → Bool
is_get verb.Get = true
is_get v = false

abbrev pub is_target : Verb → Bool
is_target verb.Target = true
is_target v = false

abbrev pub is_lint : Verb → Bool
is_lint verb.Lint = true
is_lint v = false

abbrev pub has_format : Verb → Bool
has_format verb.Get = true
has_format verb.Target = true
has_format verb.Lint = true
has_format v = false

abbrev pub has_rules : Verb → Bool
has_rules verb.Get = true
has_rules verb.Target = true
has_rules verb.Rustc = true
has_rules verb.Host = true
has_rules v = false

-- whether a command has this option
abbrev pub is_fit_flag : Verb → Flag → Bool
is_fit_flag v a_flag.Help = true
is_fit_flag v a_flag.Version = true
is_fit_flag v a_flag.Quiet = true
is_fit_flag v a_flag.NoPrograms = true
is_fit_flag v a_flag.BuildScripts = is_target v
is_fit_flag v a_flag.Compare = is_lint v
is_fit_flag v f = is_get v

abbrev pub is_fit_setting : Verb → Setting → Bool
is_fit_setting v a_setting.Directory = true
is_fit_setting v a_setting.Color = true
is_fit_setting v a_setting.Config = not (is_lint v)
is_fit_setting v a_setting.Format = has_format v
is_fit_setting v a_setting.Merged = is_get v
is_fit_setting v a_setting.Rules = has_rules v
is_fit_setting v s = is_lint v

abbrev pub is_fit : Verb → Part → Bool
is_fit v (flag f) = is_fit_flag v f
is_fit v (setting s value) = is_fit_setting v s
is_fit v (operand word) = true

-- the first part that the command doesn't have
abbrev pub first_unfit : Verb → List Part → Option Part
first_unfit v parts = find (λ part. not (is_fit v part)) parts

abbrev pub unfit : Part → Fault
unfit (flag f) = unfit_flag f
unfit (setting s value) = unfit_setting s
unfit (operand word) = unexpected word

abbrev pub unfit_of : Option Part → Option Fault
unfit_of None = None
unfit_of (Some part) = Some (unfit part)

-- a command without operands
abbrev pub bare : Command → List (List ℕ) → Result Command Fault
bare command [] = Ok command
bare command (word ∷ words) = Err (unexpected word)

-- the key of `get`
abbrev pub key_of : List (List ℕ) → Result (Option (List ℕ)) Fault
key_of [] = Ok None
key_of (key ∷ []) = Ok (Some key)
key_of (key ∷ (word ∷ words)) = Err (unexpected word)

abbrev pub stage_by : Bool → Bool → Result Stage Fault
stage_by false false = Ok stage.Environment
stage_by true false = Ok stage.Files
stage_by false true = Ok stage.Resolved
stage_by true true = Err (conflict (codes "--files") (codes "--resolved"))

-- which configuration is printed
abbrev pub stage_of : List Part → Result Stage Fault
stage_of parts = stage_by (has_flag a_flag.Files parts) (has_flag a_flag.Resolved parts)

abbrev pub is_toml : ValueFormat → Bool
is_toml of_value.Toml = true
is_toml format = false

abbrev pub is_resolved : Stage → Bool
is_resolved stage.Resolved = true
is_resolved s = false

abbrev pub is_files : Stage → Bool
is_files stage.Files = true
is_files s = false

-- what isn't merged has no JSON and isn't resolved, and what is resolved has no origins
abbrev pub disagreement : Get → Option Fault
disagreement g =
    if not g.merged && not (is_toml g.format) then Some (conflict (codes "--merged no") (codes "--format json"))
    else if not g.merged && is_resolved g.stage then Some (conflict (codes "--merged no") (codes "--resolved"))
    else if g.origins && is_resolved g.stage then Some (conflict (codes "--show-origin") (codes "--resolved"))
    else None

abbrev pub is_nothing : List (List ℕ) → Bool
is_nothing [] = true
is_nothing (value ∷ values) = false

-- the files alone have no override
abbrev pub override_of_files : Get → List Part → Option Fault
override_of_files g parts =
    if is_files g.stage && not (is_nothing (values a_setting.Config parts)) then Some (conflict (codes "--files") (codes "--config"))
    else None

abbrev pub is_cargo : Rules → Bool
is_cargo rules.Cargo = true
is_cargo rules.Crate = false

-- by Cargo's rules nothing is resolved, and no source is shown by itself
abbrev pub misfit_of_rules : Get → Option Fault
misfit_of_rules g =
    if is_cargo g.rules && is_resolved g.stage then Some (conflict (codes "--rules cargo") (codes "--resolved"))
    else if is_cargo g.rules && not g.merged then Some (conflict (codes "--rules cargo") (codes "--merged no"))
    else None

-- its options don't exclude each other
abbrev pub where_well : List Part → Get → Result Get Fault
where_well parts g = unless (disagreement g) (unless (misfit_of_rules g) (unless (override_of_files g parts) (Ok g)))

abbrev pub value_format_of : List Part → Result ValueFormat Fault
value_format_of parts = chosen a_setting.Format value_format_names value_format_named of_value.Toml (single a_setting.Format parts)

abbrev pub merged_of : List Part → Result Bool Fault
merged_of parts = chosen a_setting.Merged merged_names merged_named true (single a_setting.Merged parts)

-- the rules that are given, or else these
abbrev pub rules_of : Rules → List Part → Result Rules Fault
rules_of default parts = chosen a_setting.Rules rules_names rules_named default (single a_setting.Rules parts)

-- the rules of `get` where none are given: Cargo's, but the crate's for what is resolved and for what isn't merged
abbrev pub rules_of_get : Stage → Bool → Rules
rules_of_get stage merged = if not merged || is_resolved stage then rules.Crate else rules.Cargo

abbrev pub get_of : List (List ℕ) → List Part → Result Get Fault
get_of operands parts =
    and_then (key_of operands) (λ key. and_then (stage_of parts) (λ stage. and_then (value_format_of parts) (λ format.
    and_then (merged_of parts) (λ merged. and_then (rules_of (rules_of_get stage merged) parts) (λ rules.
    where_well parts (record {
      key = key;
      stage = stage;
      rules = rules;
      format = format;
      merged = merged;
      origins = has_flag a_flag.ShowOrigin parts;
      tokens = has_flag a_flag.Tokens parts;
    }))))))

abbrev pub target_format_of : List Part → Result TargetFormat Fault
target_format_of parts = chosen a_setting.Format target_format_names target_format_named of_target.Toml (single a_setting.Format parts)

-- by the crate's rules there is no answer for build scripts
abbrev pub misfit_of_targets : Targets → Option Fault
misfit_of_targets t =
    if t.build_scripts && not (is_cargo t.rules) then Some (conflict (codes "--build-scripts") (codes "--rules crate")) else None

abbrev pub where_by_cargo : Targets → Result Targets Fault
where_by_cargo t = unless (misfit_of_targets t) (Ok t)

abbrev pub targets_of : List (List ℕ) → List Part → Result Targets Fault
targets_of operands parts =
    and_then (rules_of rules.Cargo parts) (λ rules. and_then (target_format_of parts) (λ format.
    where_by_cargo (record { triples = operands; build_scripts = has_flag a_flag.BuildScripts parts; rules = rules; format = format })))

abbrev pub deny_of : List Part → Result Level Fault
deny_of parts = chosen a_setting.Deny level_names level_named level.Error (single a_setting.Deny parts)

abbrev pub lint_format_of : List Part → Result LintFormat Fault
lint_format_of parts = chosen a_setting.Format lint_format_names lint_format_named of_lint.Text (single a_setting.Format parts)

abbrev pub lint_of : List (List ℕ) → List Part → Result Lint Fault
lint_of operands parts =
    and_then (deny_of parts) (λ deny. and_then (lint_format_of parts) (λ format. Ok (record {
      paths = operands;
      deny = deny;
      format = format;
      allowed = values a_setting.Allow parts;
      targets = values a_setting.Target parts;
      compares = has_flag a_flag.Compare parts;
    })))

-- a command with these operands and the options of these parts
abbrev pub by_verb : Verb → List (List ℕ) → List Part → Result Command Fault
by_verb verb.Get operands parts = and_then (get_of operands parts) (λ g. Ok (get g))
by_verb verb.Target operands parts = and_then (targets_of operands parts) (λ t. Ok (target t))
by_verb verb.Rustc operands parts = and_then (rules_of rules.Cargo parts) (λ rules. bare (rustc rules) operands)
by_verb verb.Host operands parts = and_then (rules_of rules.Cargo parts) (λ rules. bare (host rules) operands)
by_verb verb.Version operands parts = bare version operands
by_verb verb.Lint operands parts = and_then (lint_of operands parts) (λ l. Ok (lint l))

-- the same, where the command has all of these options
abbrev pub command_of : Verb → List (List ℕ) → List Part → Result Command Fault
command_of v operands parts = unless (unfit_of (first_unfit v parts)) (by_verb v operands parts)
