-- The lints: the name, the level and the description of each.
use Rattle.std.specs.Prelude.{ℕ, Bool, List, [], ◌∷◌, bytes_eq, codes, map}
use Rattle.std.specs.List.{list_any}
use Rattle.cc2_reports.specs.declared.level.Level.{Level}
use Rattle.cc2_reports.specs.declared.level.Level.TheVariants as level
use Rattle.cc2_reports.specs.declared.lint.Lint.{Lint}
use Rattle.cc2_reports.specs.declared.lint.Lint.TheVariants as lint

pub record Rule : Type 0 where
  pub name : List ℕ
  pub level : Level
  pub about : List ℕ

abbrev error : List ℕ → List ℕ → Rule
error name about = record { name = name; level = level.Error; about = about }

abbrev warning : List ℕ → List ℕ → Rule
warning name about = record { name = name; level = level.Warning; about = about }

abbrev note : List ℕ → List ℕ → Rule
note name about = record { name = name; level = level.Note; about = about }

abbrev pub rule_of : Lint → Rule
rule_of lint.BadInclude =
    error (codes "bad-include")
    (codes "`include` isn't an array")
rule_of lint.BadTemplate =
    error (codes "bad-template")
    (codes "`build.build-dir` has a brace outside of Cargo's template variables")
rule_of lint.BadValue =
    error (codes "bad-value")
    (codes "a value isn't one that the key takes")
rule_of lint.CargoAccepts =
    warning (codes "cargo-accepts")
    (codes "Cargo accepts a value or a configuration that cargo-config2 0.1.45 refuses")
rule_of lint.CargoOnly =
    note (codes "cargo-only")
    (codes "Cargo reads a key that this library doesn't read")
rule_of lint.CargoRefuses =
    error (codes "cargo-refuses")
    (codes "Cargo refuses a configuration that cargo-config2 0.1.45 accepts")
rule_of lint.ConflictingCfg =
    error (codes "conflicting-cfg")
    (codes "two matching `cfg(..)` tables set a linker or a runner each")
rule_of lint.DebugAssertions =
    warning (codes "debug-assertions")
    (codes "a `cfg(..)` key asks for `debug_assertions`")
rule_of lint.DiffersFromCargo =
    warning (codes "differs-from-cargo")
    (codes "at a key cargo-config2 0.1.45 has another value than Cargo")
rule_of lint.EmptyPath =
    error (codes "empty-path")
    (codes "a directory setting is empty")
rule_of lint.EmptyWrapper =
    warning (codes "empty-wrapper")
    (codes "a wrapper of rustc is empty")
rule_of lint.IgnoredCfg =
    warning (codes "ignored-cfg")
    (codes "Cargo ignores a `cfg(..)` key with white space other than spaces")
rule_of lint.IgnoredKey =
    warning (codes "ignored-key")
    (codes "Cargo ignores a key of a `cfg(..)` table")
rule_of lint.InvalidCfg =
    error (codes "invalid-cfg")
    (codes "a key of `target` that begins with `cfg(` isn't a cfg expression")
rule_of lint.InvalidToml =
    error (codes "invalid-toml")
    (codes "a file isn't valid TOML")
rule_of lint.JsonTarget =
    warning (codes "json-target")
    (codes "`build.target` is a target specification file, which stable Cargo refuses")
rule_of lint.MixedTypes =
    error (codes "mixed-types")
    (codes "two files set a key to values of types that can't be merged")
rule_of lint.NeverMatches =
    warning (codes "never-matches")
    (codes "a `cfg(..)` key matches no target")
rule_of lint.NotUtf8 =
    error (codes "not-utf8")
    (codes "a file isn't valid UTF-8")
rule_of lint.OldFileName =
    note (codes "old-file-name")
    (codes "a file is called `config` instead of `config.toml`")
rule_of lint.Overridden =
    note (codes "overridden")
    (codes "a file that takes precedence sets the same key")
rule_of lint.OverriddenByVariable =
    note (codes "overridden-by-variable")
    (codes "an environment variable sets the same key")
rule_of lint.QuietAndVerbose =
    error (codes "quiet-and-verbose")
    (codes "`term.quiet` and `term.verbose` are both true")
rule_of lint.QuotedTriple =
    warning (codes "quoted-triple")
    (codes "a target triple with dots is quoted, which Cargo ignores")
rule_of lint.ReadableToken =
    warning (codes "readable-token")
    (codes "other users can read a file with a token")
rule_of lint.RemovedKey =
    error (codes "removed-key")
    (codes "Cargo no longer supports a key")
rule_of lint.ShadowedAlias =
    warning (codes "shadowed-alias")
    (codes "an alias has the name of a command of Cargo")
rule_of lint.ShadowedFile =
    warning (codes "shadowed-file")
    (codes "a file called `config` is read instead of the `config.toml` in its directory")
rule_of lint.SourceWithLocations =
    error (codes "source-with-locations")
    (codes "a source has more than one location")
rule_of lint.SourceWithoutLocation =
    error (codes "source-without-location")
    (codes "a source has no location")
rule_of lint.Token =
    warning (codes "token")
    (codes "a token is in a file outside of the cargo home")
rule_of lint.UnknownKey =
    warning (codes "unknown-key")
    (codes "neither Cargo nor this library reads a key")
rule_of lint.Unreadable =
    error (codes "unreadable")
    (codes "a file can't be read")
rule_of lint.Unresolvable =
    error (codes "unresolvable")
    (codes "a value is valid and can't be resolved")
rule_of lint.ZeroJobs =
    error (codes "zero-jobs")
    (codes "`build.jobs` is 0")

abbrev pub name_of : Lint → List ℕ
name_of l = (rule_of l).name

abbrev pub level_of : Lint → Level
level_of l = (rule_of l).level

-- in the order of their names
abbrev pub lints : List Lint
lints =
    lint.BadInclude ∷ lint.BadTemplate ∷ lint.BadValue ∷ lint.CargoAccepts ∷ lint.CargoOnly ∷
    lint.CargoRefuses ∷ lint.ConflictingCfg ∷ lint.DebugAssertions ∷ lint.DiffersFromCargo ∷ lint.EmptyPath ∷ lint.EmptyWrapper ∷
    lint.IgnoredCfg ∷ lint.IgnoredKey ∷ lint.InvalidCfg ∷ lint.InvalidToml ∷ lint.JsonTarget ∷
    lint.MixedTypes ∷ lint.NeverMatches ∷ lint.NotUtf8 ∷ lint.OldFileName ∷ lint.Overridden ∷
    lint.OverriddenByVariable ∷ lint.QuietAndVerbose ∷ lint.QuotedTriple ∷ lint.ReadableToken ∷
    lint.RemovedKey ∷ lint.ShadowedAlias ∷ lint.ShadowedFile ∷ lint.SourceWithLocations ∷
    lint.SourceWithoutLocation ∷ lint.Token ∷ lint.UnknownKey ∷ lint.Unreadable ∷
    lint.Unresolvable ∷ lint.ZeroJobs ∷ []

-- all of them
abbrev pub lint_names : List (List ℕ)
lint_names = map name_of lints

-- one of these names is this word
abbrev pub is_named : List (List ℕ) → List ℕ → Bool
is_named names word = list_any (λ name. bytes_eq name word) names

-- there is a lint of this name
abbrev pub is_lint : List ℕ → Bool
is_lint word = is_named lint_names word
