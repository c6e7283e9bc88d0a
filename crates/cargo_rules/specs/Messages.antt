-- Why files aren't loaded, as it is printed.
use Rattle.std.specs.Prelude.{ℕ, ◌+◌, ◌==◌, List, [], ◌++◌, codes, string_bytes, Some, None}
use Rattle.std.specs.Fmt.{decimal}
use Rattle.std.specs.List.{before_first, join_by}
use Rattle.cc2_error.specs.Causes.{Cause, Refusal, in_context, memory, mixed, not_text, plain, refusal_of, refused_text, unreadable}
use Rattle.cc2_error.specs.declared.error.ReadCause.{ReadCause}
use Rattle.cc2_error.specs.declared.error.ReadCause.TheVariants as reading
use Rattle.cc2_value.specs.Cells.{Origin, command_line, file, variable}
use Rattle.cc2_value.specs.Values.{origin_of}
use Rattle.cc2_cargo.specs.declared.dotted.OverrideFault.{OverrideFault}
use Rattle.cc2_cargo.specs.declared.dotted.OverrideFault.TheVariants as override_fault
use Rattle.cc2_cargo.specs.declared.expand.FileFault.{FileFault}
use Rattle.cc2_cargo.specs.declared.expand.FileFault.TheVariants as file_fault
use Rattle.cc2_cargo.specs.declared.include.IncludeFault.{IncludeFault}
use Rattle.cc2_cargo.specs.declared.include.IncludeFault.TheVariants as include_fault
use Rattle.cc2_cargo.specs.declared.layer.LayerFault.{LayerFault}
use Rattle.cc2_cargo.specs.declared.layer.LayerFault.TheVariants as layer_fault
use Rattle.cc2_cargo.specs.declared.load.LoadFault.{LoadFault}
use Rattle.cc2_cargo.specs.declared.load.LoadFault.TheVariants as fault

abbrev pub cause_of_reading : ReadCause → Cause
cause_of_reading reading.Unreadable = unreadable
cause_of_reading reading.NotText = not_text

-- the line for a file that isn't read
abbrev pub reading_line : List ℕ → List ℕ
reading_line path = codes "failed to read `" ++ (path ++ codes "`")

-- the line for a file that is read and refused
abbrev pub parsing_line : List ℕ → List ℕ
parsing_line path = codes "failed to parse `" ++ (path ++ codes "` as cargo configuration")

-- items are counted from 1
abbrev pub item_number : ℕ → ℕ
item_number index = index + 1

-- what is wrong with an `include`
abbrev pub include_text : IncludeFault → List ℕ
include_text include_fault.NoArray = codes "`include` must be an array"
include_text (include_fault.WrongType index) =
    codes "item " ++ (decimal (item_number index) ++ codes " of `include` must be a path, or a table with a `path`")
include_text (include_fault.WrongPath index) =
    codes "item " ++ (decimal (item_number index) ++ codes " of `include` must be the path of one `.toml` file")
include_text include_fault.Memory = codes "out of memory"

-- the key at which two values don't merge, with a dot between two names
abbrev pub mixed_key : Cause → List ℕ
mixed_key (mixed path expected found) = join_by (λ name. name) (codes ".") path
mixed_key cause = []

abbrev pub mixed_line : List ℕ → Cause → List ℕ
mixed_line path cause = codes "failed to merge `" ++ (mixed_key cause ++ (codes "` of `" ++ (path ++ codes "` with files of lower precedence")))

-- a reader's text
abbrev pub rejected : List ℕ → Refusal
rejected text = plain (refused_text text)

-- why a file isn't read
abbrev pub of_file : FileFault → Refusal
of_file (file_fault.Unreadable path) = in_context (reading_line (string_bytes path)) (plain unreadable)
of_file (file_fault.NotText path) = in_context (reading_line (string_bytes path)) (plain not_text)
of_file (file_fault.NoToml path message) = in_context (parsing_line (string_bytes path)) (rejected (string_bytes message))
of_file (file_fault.Include path why) = in_context (parsing_line (string_bytes path)) (rejected (include_text why))
of_file (file_fault.Twice path) = rejected (codes "`" ++ (string_bytes path ++ codes "` is included more than once"))
of_file file_fault.Memory = plain memory

-- what a line calls the place where a layer is set
abbrev pub definition_name : Origin → List ℕ
definition_name (file path) = path
definition_name (variable name) = name
definition_name (command_line (Some path)) = path
definition_name (command_line None) = codes "--config"

-- why layers don't merge
abbrev pub of_layer : LayerFault → Refusal
of_layer (layer_fault.Value definition error) = in_context (parsing_line (definition_name (origin_of definition))) (refusal_of error)
of_layer (layer_fault.Mixed definition error) = in_context (mixed_line (definition_name (origin_of definition)) (refusal_of error).cause) (refusal_of error)
of_layer layer_fault.Memory = plain memory

-- what is before the first such character of a text, all of it where there is none
abbrev pub front_before : List ℕ → ℕ → List ℕ
front_before text end = before_first (λ b. b == end) text

-- the key of a text `KEY = VALUE`: what is before the first `=`, space or line feed
abbrev pub key_of : List ℕ → List ℕ
key_of text = front_before (front_before (front_before text 61) 32) 10

-- the line for an override that is a text: it names the key alone, since the value may be a secret
abbrev pub bad_override_line : List ℕ → List ℕ
bad_override_line text = codes "failed to parse `--config " ++ (key_of text ++ codes "` as cargo configuration")

-- what is wrong with such a text
abbrev pub override_text : OverrideFault → List ℕ
override_text (override_fault.NoToml message) = string_bytes message
override_text override_fault.NoDottedKey = codes "it must be one dotted key with a value, such as `build.jobs = 2`"
override_text override_fault.Comment = codes "it must have no comment before the key or after the value"
override_text override_fault.InlineTable = codes "its value must not be an inline table"
override_text override_fault.Secret = codes "a token or a secret key of a registry can't be set on the command line"
override_text override_fault.Memory = codes "out of memory"

-- what is printed of a fault
abbrev pub refusal_for : LoadFault → Refusal
refusal_for (fault.File why) = of_file why
refusal_for (fault.Override text why) = in_context (bad_override_line (string_bytes text)) (rejected (override_text why))
refusal_for (fault.OverrideInclude text why) = in_context (bad_override_line (string_bytes text)) (rejected (include_text why))
refusal_for (fault.Layer why) = of_layer why
