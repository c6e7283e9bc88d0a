-- What a refusal prints: for each cause one line, replaced by the context where there is one.
use Rattle.std.specs.Prelude.{ℕ, ℤ, List, [], ◌++◌, ◌∷◌, codes, flat_map, length, Option, Some, None, Bool, ◌&&◌, not, if◌then◌else◌, ◌==◌, unwrap_or}
use Rattle.std.specs.Fmt.{signed_decimal}
use Rattle.std.specs.Str.{is_utf8, trim_start}
use Rattle.std.specs.List.{repeat}
use Rattle.cc2_error.specs.CfgErrorTexts.{mark_below, reason_text}
use Rattle.cc2_error.specs.Commands.{Command}
use Rattle.cc2_error.specs.Shapes.{shape_text}
use Rattle.cc2_error.specs.Causes.{Cause, memory, unreadable, not_text, wrong_type, refused_text, mixed, env_not_text, env_parse, empty_command, provider_args, provider_no_command}
use Rattle.cc2_error.specs.Causes.{no_root, spec_name, cfg_parse, not_triple, not_run, program_failed, output_not_text, version_output, cfg_value_absent, cfg_value_too_many}
use Rattle.cc2_error.specs.Causes.{cfg_value_unreadable, separator_unit, separator_space, bad_spelling, Refusal}

-- the text between backquotes
abbrev pub quoted : List ℕ → List ℕ
quoted text = codes "`" ++ (text ++ codes "`")

-- each text after the mark
abbrev pub each_behind : List ℕ → List (List ℕ) → List ℕ
each_behind mark texts = flat_map (λ text. mark ++ text) texts

-- the keys of a path with a dot between two
abbrev pub dotted : List (List ℕ) → List ℕ
dotted [] = []
dotted (key ∷ keys) = key ++ each_behind (codes ".") keys

-- the program and its arguments with a space between two, between backquotes
abbrev pub command_text : Command → List ℕ
command_text c = codes "`" ++ (c.program ++ (each_behind (codes " ") c.args ++ codes "`"))

-- how a program ended
abbrev pub status_text : Option ℤ → List ℕ
status_text (Some code) = codes " (exit status: " ++ (signed_decimal code ++ codes ")")
status_text None = codes " (no exit status)"

-- UTF-8 that is more than white space
abbrev pub is_worth_showing : List ℕ → Bool
is_worth_showing bytes = is_utf8 bytes && not (length (trim_start bytes) == 0)

-- what a program wrote to one of its two outputs, under its name; nothing where it isn't worth showing
abbrev pub stream_text : List ℕ → List ℕ → List ℕ
stream_text name bytes = if is_worth_showing bytes then codes "\n--- " ++ (name ++ (codes "\n" ++ bytes)) else []

-- the line of a cause
abbrev pub own_line : Cause → List ℕ
own_line memory = codes "out of memory"
own_line unreadable = codes "file cannot be read"
own_line not_text = codes "file is not UTF-8"
own_line (wrong_type path) = codes "wrong type at " ++ quoted (dotted path)
own_line (refused_text text) = text
own_line (mixed path expected found) = codes "expected " ++ (shape_text expected ++ (codes ", but found " ++ shape_text found))
own_line (env_not_text shown) = codes "environment variable was not valid unicode: " ++ shown
own_line (env_parse must found) = must ++ (codes ", but found " ++ quoted found)
own_line empty_command = codes "invalid length 0, expected at least one element"
own_line (provider_args kind) = codes "args should be empty for credential provider of kind \"" ++ (kind ++ codes "\"")
own_line provider_no_command = codes "invalid length 1, expected at least two elements for registry of kind \"cargo:token-from-stdout\""
own_line (no_root file value) = codes "no root above " ++ (quoted file ++ (codes " for " ++ quoted value))
own_line spec_name = codes "target spec path has no file name"
own_line (cfg_parse text start end reason) = text ++ (codes "\n" ++ (repeat start (codes " ") ++ (mark_below reason start end ++ reason_text reason)))
own_line (not_triple triple) = codes "'" ++ (triple ++ codes "' is not valid target triple")
own_line (not_run command) = codes "could not execute process " ++ (command_text command ++ codes " (never executed)")
own_line (program_failed command code stdout stderr) =
    codes "process didn't exit successfully: " ++ (command_text command ++ (status_text code ++ (stream_text (codes "stdout") stdout ++ stream_text (codes "stderr") stderr)))
own_line (output_not_text command) = codes "failed to parse output from " ++ command_text command
own_line (version_output command output) = codes "unexpected version output from " ++ (command_text command ++ (codes ": " ++ output))
own_line (cfg_value_absent key) = key ++ codes " cfg should be always available in cfg list from rustc --print cfg"
own_line (cfg_value_too_many key) = codes "too many " ++ (key ++ codes " cfg")
own_line (cfg_value_unreadable key) = codes "failed to parse value of " ++ (key ++ codes " cfg")
own_line separator_unit = codes "flag in rustflags must not contain its separator ('\\u{1f}')"
own_line separator_space = codes "flag in rustflags must not contain its separator (' ')"
own_line (bad_spelling must) = must

-- what a refusal prints: the context where there is one, else the line of its cause
abbrev pub printed : Refusal → List ℕ
printed refusal = unwrap_or refusal.context (own_line refusal.cause)
