-- The message for arguments that are wrong.
use Rattle.std.specs.Prelude.{ℕ, List, [], ◌∷◌, ◌++◌, codes, Option, Some, None}
use Rattle.std.specs.List.{join_by}
use Rattle.cc2_command_line.specs.Faults.{Fault, unknown_option, no_value, unknown_command, no_command, unfit_flag, unfit_setting, twice, bad_value, conflict, unexpected, no_memory}
use Rattle.cc2_command_line.specs.Nearest.{nearest}
use Rattle.cc2_command_line.specs.Parts.{cut}
use Rattle.cc2_command_line.specs.declared.option.Flag.{Flag}
use Rattle.cc2_command_line.specs.declared.option.Flag.TheVariants as flag
use Rattle.cc2_command_line.specs.declared.option.Setting.{Setting}
use Rattle.cc2_command_line.specs.declared.option.Setting.TheVariants as setting

abbrev pub commands : List (List ℕ)
commands =
    codes "get" ∷ codes "target" ∷ codes "rustc" ∷ codes "host" ∷ codes "version" ∷ codes "lint" ∷ codes "help" ∷ []

abbrev pub options : List (List ℕ)
options =
    codes "--help" ∷ codes "--version" ∷ codes "--quiet" ∷ codes "--show-origin" ∷ codes "--files" ∷
    codes "--resolved" ∷ codes "--tokens" ∷ codes "--build-scripts" ∷ codes "--compare" ∷ codes "--no-programs" ∷ codes "--config" ∷ codes "--color" ∷ codes "--format" ∷
    codes "--merged" ∷ codes "--rules" ∷ codes "--deny" ∷ codes "--allow" ∷ codes "--target" ∷ []

abbrev pub flag_name : Flag → List ℕ
flag_name flag.Help = codes "--help"
flag_name flag.Version = codes "--version"
flag_name flag.Quiet = codes "--quiet"
flag_name flag.ShowOrigin = codes "--show-origin"
flag_name flag.Files = codes "--files"
flag_name flag.Resolved = codes "--resolved"
flag_name flag.Tokens = codes "--tokens"
flag_name flag.BuildScripts = codes "--build-scripts"
flag_name flag.Compare = codes "--compare"
flag_name flag.NoPrograms = codes "--no-programs"

abbrev pub setting_name : Setting → List ℕ
setting_name setting.Directory = codes "-C"
setting_name setting.Config = codes "--config"
setting_name setting.Color = codes "--color"
setting_name setting.Format = codes "--format"
setting_name setting.Merged = codes "--merged"
setting_name setting.Rules = codes "--rules"
setting_name setting.Deny = codes "--deny"
setting_name setting.Allow = codes "--allow"
setting_name setting.Target = codes "--target"

abbrev pub unfit_reason : List ℕ → List ℕ
unfit_reason name = codes "this command has no option `" ++ (name ++ codes "`")

-- what is wrong, in one line
abbrev pub reason : Fault → List ℕ
reason (unknown_option word) = codes "unexpected option `" ++ (word ++ codes "`")
reason (no_value s) = codes "the option `" ++ (setting_name s ++ codes "` needs a value")
reason (unknown_command word) = codes "no such command: `" ++ (word ++ codes "`")
reason no_command = codes "no command is given"
reason (unfit_flag f) = unfit_reason (flag_name f)
reason (unfit_setting s) = unfit_reason (setting_name s)
reason (twice s) = codes "the option `" ++ (setting_name s ++ codes "` is given more than once")
reason (bad_value s value names) =
    codes "invalid value `" ++ (value ++ (codes "` for the option `" ++ (setting_name s ++ codes "`")))
reason (conflict one other) = codes "`" ++ (one ++ (codes "` and `" ++ (other ++ codes "` can't be used together")))
reason (unexpected word) = codes "unexpected argument `" ++ (word ++ codes "`")
reason no_memory = codes "out of memory"

-- a line with a similar word, if there is one
abbrev pub tip : Option (List ℕ) → List ℕ
tip None = []
tip (Some near) = codes "\n  tip: a similar word is `" ++ (near ++ codes "`\n")

abbrev pub values_line : List (List ℕ) → List ℕ
values_line names = codes "\n  possible values: " ++ (join_by (λ name. name) (codes ", ") names ++ codes "\n")

abbrev pub name_or : List ℕ → Option (List ℕ × List ℕ) → List ℕ
name_or word None = word
name_or word (Some p) = p.0

-- an option without the value after `=`
abbrev pub before_equals : List ℕ → List ℕ
before_equals word = name_or word (cut word)

-- what may be meant
abbrev pub hint : Fault → List ℕ
hint (unknown_option word) = tip (nearest (before_equals word) options)
hint (unknown_command word) = tip (nearest word commands)
hint (bad_value s value names) = values_line names
hint (unfit_setting setting.Target) = codes "\n  tip: `target` takes triples without an option\n"
hint fault = []

-- a reason and a hint, with how to get help
abbrev pub framed : List ℕ → List ℕ → List ℕ
framed why hints =
    codes "error: " ++ (why ++ (codes "\n" ++ (hints ++ codes "\nFor more information, try `cargo config2 --help`.\n")))

-- the whole message: what is wrong, what may be meant, and how to get help
abbrev pub message : Fault → List ℕ
message fault = framed (reason fault) (hint fault)
