-- The names of options.
use Rattle.std.specs.Prelude.{ℕ, List, codes, bytes_eq, Option, Some, None, ◌||◌, if◌then◌else◌}
use Rattle.cc2_command_line.specs.declared.option.Flag.{Flag}
use Rattle.cc2_command_line.specs.declared.option.Flag.TheVariants as flag
use Rattle.cc2_command_line.specs.declared.option.Setting.{Setting}
use Rattle.cc2_command_line.specs.declared.option.Setting.TheVariants as setting

-- the option without a value of this name
abbrev pub flag_named : List ℕ → Option Flag
flag_named word =
    if bytes_eq word (codes "-h") || bytes_eq word (codes "--help") then Some flag.Help
    else if bytes_eq word (codes "-V") || bytes_eq word (codes "--version") then Some flag.Version
    else if bytes_eq word (codes "-q") || bytes_eq word (codes "--quiet") then Some flag.Quiet
    else if bytes_eq word (codes "--show-origin") then Some flag.ShowOrigin
    else if bytes_eq word (codes "--files") then Some flag.Files
    else if bytes_eq word (codes "--resolved") then Some flag.Resolved
    else if bytes_eq word (codes "--tokens") then Some flag.Tokens
    else if bytes_eq word (codes "--build-scripts") then Some flag.BuildScripts
    else if bytes_eq word (codes "--compare") then Some flag.Compare
    else if bytes_eq word (codes "--no-programs") then Some flag.NoPrograms
    else None

-- the option with a value of this name
abbrev pub setting_named : List ℕ → Option Setting
setting_named word =
    if bytes_eq word (codes "-C") then Some setting.Directory
    else if bytes_eq word (codes "--config") then Some setting.Config
    else if bytes_eq word (codes "--color") then Some setting.Color
    else if bytes_eq word (codes "--format") then Some setting.Format
    else if bytes_eq word (codes "--merged") then Some setting.Merged
    else if bytes_eq word (codes "--rules") then Some setting.Rules
    else if bytes_eq word (codes "--deny") then Some setting.Deny
    else if bytes_eq word (codes "--allow") then Some setting.Allow
    else if bytes_eq word (codes "--target") then Some setting.Target
    else None
