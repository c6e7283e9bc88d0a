-- What `--help` and `--version` print.
use Rattle.std.specs.Prelude.{ℕ, List, [], ◌∷◌, ◌++◌, codes, flat_map, Option, Some, None}
use Rattle.cc2_command_line.specs.declared.command.Verb.{Verb}
use Rattle.cc2_command_line.specs.declared.command.Verb.TheVariants as verb

-- each with the end of a line
abbrev pub lines : List (List ℕ) → List ℕ
lines texts = flat_map (λ text. text ++ codes "\n") texts

abbrev pub version_line : List ℕ
version_line = codes "cargo-config2 1.1.0 (hiuskero; cargo-config2 0.1.45)\n"

abbrev pub program_help : List ℕ
program_help = lines (
    codes "Prints Cargo's configuration and where each value comes from" ∷
    codes "" ∷
    codes "Usage: cargo config2 [OPTIONS] <COMMAND>" ∷
    codes "" ∷
    codes "Commands:" ∷
    codes "  get [KEY]           Print the configuration, or the value of a key" ∷
    codes "  target [TRIPLE]...  Print the linker, runner and flags for targets" ∷
    codes "  rustc               Print the command that runs rustc" ∷
    codes "  host                Print the target triple of the host" ∷
    codes "  version             Print the versions of rustc and cargo" ∷
    codes "  lint [PATH]...      Report mistakes in configuration files" ∷
    codes "  help [COMMAND]      Print this help, or the help of a command" ∷
    codes "" ∷
    codes "Options:" ∷
    codes "  -C <DIRECTORY>                 Change to DIRECTORY before doing anything" ∷
    codes "      --config <KEY=VALUE|PATH>  Override a configuration value; may be repeated, the last one wins" ∷
    codes "      --color <WHEN>             Coloring: auto, always, never [default: auto]" ∷
    codes "  -q, --quiet                    Do not print the summary of lint" ∷
    codes "      --no-programs              Run no program; it is an error where an answer needs one" ∷
    codes "  -h, --help                     Print help" ∷
    codes "  -V, --version                  Print version" ∷
    codes "" ∷
    codes "The configuration is that of the current directory: its .cargo/config.toml, those of the directories above it, and that" ∷
    codes "of Cargo's home, under Cargo's environment variables. Without HOME the home directory is looked up in /etc/passwd." ∷
    codes "" ∷
    codes "Exit status: 0, or 1 if the configuration has an error, or 2 if the arguments are wrong." ∷
    [])

abbrev pub get_help : List ℕ
get_help = lines (
    codes "Prints the configuration, or the value of a key" ∷
    codes "" ∷
    codes "Usage: cargo config2 get [OPTIONS] [KEY]" ∷
    codes "" ∷
    codes "Arguments:" ∷
    codes "  [KEY]  Key, such as build.jobs or \"target.'cfg(unix)'.runner\"" ∷
    codes "" ∷
    codes "Options:" ∷
    codes "      --format <FORMAT>          Output format: toml, json, json-value [default: toml]" ∷
    codes "      --show-origin              Print where each value is set" ∷
    codes "      --merged <yes|no>          Print one merged configuration, or each source by itself [default: yes]" ∷
    codes "      --files                    Print the files alone, without environment variables" ∷
    codes "      --rules <RULES>            Whose rules: cargo, as Cargo 1.95 itself, or crate, as the crate cargo-config2 0.1.45 [default: cargo]" ∷
    codes "      --resolved                 Print the resolved configuration: relative paths joined, flags and aliases split" ∷
    codes "      --tokens                   Print the tokens of registries, which are hidden otherwise" ∷
    codes "  -C <DIRECTORY>                 Change to DIRECTORY before doing anything" ∷
    codes "      --config <KEY=VALUE|PATH>  Override a configuration value; may be repeated, the last one wins" ∷
    codes "  -h, --help                     Print help" ∷
    codes "" ∷
    codes "Cargo's rules read every key, and files with those that they include. --resolved and --merged no go by the crate's rules." ∷
    codes "" ∷
    codes "Examples:" ∷
    codes "  cargo config2 get build.rustflags --show-origin" ∷
    codes "  cargo config2 get --format json" ∷
    codes "  cargo config2 get http --files --merged no" ∷
    codes "  cargo config2 get profile --files" ∷
    codes "" ∷
    codes "Exit status: 0, or 1 if the key is not set or the configuration has an error, or 2 if the arguments are wrong." ∷
    [])

abbrev pub target_help : List ℕ
target_help = lines (
    codes "Prints the linker, runner and flags for targets" ∷
    codes "" ∷
    codes "Usage: cargo config2 target [OPTIONS] [TRIPLE]..." ∷
    codes "" ∷
    codes "Arguments:" ∷
    codes "  [TRIPLE]...  Targets [default: those of build.target, else the host]" ∷
    codes "" ∷
    codes "Options:" ∷
    codes "      --build-scripts            Print what build scripts and procedural macros get when these targets are built" ∷
    codes "      --format <FORMAT>          Output format: toml, json [default: toml]" ∷
    codes "      --rules <RULES>            Whose rules: cargo, as Cargo 1.95 itself, or crate, as the crate cargo-config2 0.1.45 [default: cargo]" ∷
    codes "      --no-programs              Run no program; it is an error where an answer needs one" ∷
    codes "  -C <DIRECTORY>                 Change to DIRECTORY before doing anything" ∷
    codes "      --config <KEY=VALUE|PATH>  Override a configuration value; may be repeated, the last one wins" ∷
    codes "  -h, --help                     Print help" ∷
    codes "" ∷
    codes "Tables such as [target.'cfg(unix)'] are used where rustc says that they match." ∷
    codes "It runs the rustc that the configuration and the variables name, as Cargo does. In a tree that you don't trust this may be" ∷
    codes "any program." ∷
    codes "" ∷
    codes "Examples:" ∷
    codes "  cargo config2 target" ∷
    codes "  cargo config2 target x86_64-unknown-linux-gnu wasm32-wasip1 --format json" ∷
    codes "  cargo config2 target x86_64-unknown-linux-gnu --build-scripts" ∷
    codes "  cargo config2 target x86_64-unknown-linux-gnu --rules crate" ∷
    [])

abbrev pub rustc_help : List ℕ
rustc_help = lines (
    codes "Prints the command that runs rustc: its wrappers, rustc and their arguments" ∷
    codes "" ∷
    codes "Usage: cargo config2 rustc [OPTIONS]" ∷
    codes "" ∷
    codes "Options:" ∷
    codes "      --rules <RULES>            Whose rules: cargo, as Cargo 1.95 itself, or crate, as the crate cargo-config2 0.1.45 [default: cargo]" ∷
    codes "  -C <DIRECTORY>                 Change to DIRECTORY before doing anything" ∷
    codes "      --config <KEY=VALUE|PATH>  Override a configuration value; may be repeated, the last one wins" ∷
    codes "  -h, --help                     Print help" ∷
    [])

abbrev pub host_help : List ℕ
host_help = lines (
    codes "Prints the target triple of the host, as `cargo -vV` or `rustc -vV` has it" ∷
    codes "" ∷
    codes "Usage: cargo config2 host [OPTIONS]" ∷
    codes "" ∷
    codes "Options:" ∷
    codes "      --rules <RULES>            Whose rules: cargo, as Cargo 1.95 itself, or crate, as the crate cargo-config2 0.1.45 [default: cargo]" ∷
    codes "      --no-programs              Run no program; it is an error where an answer needs one" ∷
    codes "  -C <DIRECTORY>                 Change to DIRECTORY before doing anything" ∷
    codes "      --config <KEY=VALUE|PATH>  Override a configuration value; may be repeated, the last one wins" ∷
    codes "  -h, --help                     Print help" ∷
    codes "" ∷
    codes "It runs the rustc that the configuration and the variables name, as Cargo does. In a tree that you don't trust this may be" ∷
    codes "any program." ∷
    [])

abbrev pub version_help : List ℕ
version_help = lines (
    codes "Prints the versions of the rustc and the cargo that the configuration chooses, and by which Cargo's rules answers are" ∷
    codes "" ∷
    codes "Usage: cargo config2 version [OPTIONS]" ∷
    codes "" ∷
    codes "Options:" ∷
    codes "      --no-programs              Run no program; it is an error where an answer needs one" ∷
    codes "  -C <DIRECTORY>                 Change to DIRECTORY before doing anything" ∷
    codes "      --config <KEY=VALUE|PATH>  Override a configuration value; may be repeated, the last one wins" ∷
    codes "  -h, --help                     Print help" ∷
    codes "" ∷
    codes "It runs the rustc and the cargo that the configuration and the variables name. In a tree that you don't trust these may be" ∷
    codes "any program." ∷
    [])

abbrev pub lint_help : List ℕ
lint_help = lines (
    codes "Reports mistakes in configuration files" ∷
    codes "" ∷
    codes "Usage: cargo-config2 lint [OPTIONS] [PATH]..." ∷
    codes "" ∷
    codes "Arguments:" ∷
    codes "  [PATH]...  Directories, each with those above it and Cargo's home, and files [default: the current directory]" ∷
    codes "" ∷
    codes "Options:" ∷
    codes "      --deny <LEVEL>     Exit with 1 from this level on: note, warning, error [default: error]" ∷
    codes "      --allow <LINT>     Do not report this lint; may be repeated" ∷
    codes "      --target <TRIPLE>  Report cfg tables that conflict for a target; may be repeated" ∷
    codes "      --compare          Report where Cargo and the crate cargo-config2 0.1.45 differ, for each --target too" ∷
    codes "      --no-programs      Run no program; it is an error where --target needs one" ∷
    codes "      --format <FORMAT>  Output format: text, json, sarif [default: text]" ∷
    codes "      --color <WHEN>     Coloring: auto, always, never [default: auto]" ∷
    codes "  -q, --quiet            Do not print the summary" ∷
    codes "  -C <DIRECTORY>         Change to DIRECTORY before doing anything" ∷
    codes "  -h, --help             Print help" ∷
    codes "" ∷
    codes "With --target it runs the rustc that the configuration and the variables name, where it needs one; without it, nothing." ∷
    codes "Run it as cargo-config2: Cargo stops at a file that it can't read before it starts `cargo config2`." ∷
    codes "" ∷
    codes "Examples:" ∷
    codes "  cargo-config2 lint --deny warning" ∷
    codes "  cargo-config2 lint .cargo/config.toml --allow token" ∷
    codes "  cargo-config2 lint --target x86_64-unknown-linux-gnu --format sarif" ∷
    [])

-- the help of a command, or of the program
abbrev pub help_text : Option Verb → List ℕ
help_text None = program_help
help_text (Some verb.Get) = get_help
help_text (Some verb.Target) = target_help
help_text (Some verb.Rustc) = rustc_help
help_text (Some verb.Host) = host_help
help_text (Some verb.Version) = version_help
help_text (Some verb.Lint) = lint_help
