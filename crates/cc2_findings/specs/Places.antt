-- Where a table of a file is, and the keys that are read there.
-- Cargo Reference, Configuration, configuration format.
use Rattle.std.specs.Prelude.{ℕ, Bool, true, false, List, [], ◌∷◌, codes, Option, Some, None, if◌then◌else◌}
use Rattle.std.specs.List.{list_any}
use Rattle.std.specs.Str.{bytes_eq}
use Rattle.cc2_value.specs.Rows.{keys_of_fields}
use Rattle.cc2_leaf.specs.Env.{env_fields}
use Rattle.cc2_tables.specs.Build.{build_fields}
use Rattle.cc2_tables.specs.CargoNew.{new_fields}
use Rattle.cc2_tables.specs.Doc.{doc_fields}
use Rattle.cc2_tables.specs.FutureIncompatReport.{report_fields}
use Rattle.cc2_tables.specs.Http.{http_fields}
use Rattle.cc2_tables.specs.Net.{net_fields}
use Rattle.cc2_tables.specs.Registries.{registries_fields}
use Rattle.cc2_tables.specs.Registry.{registry_fields}
use Rattle.cc2_tables.specs.Source.{source_fields}
use Rattle.cc2_tables.specs.Term.{term_fields}
use Rattle.cc2_tables.specs.TermProgress.{progress_fields}
use Rattle.cc2_target_table.specs.Target.{target_fields}
use Rattle.cc2_de.specs.Config.{config_fields}
use Rattle.cc2_findings.specs.declared.place.Place.{Place}
use Rattle.cc2_findings.specs.declared.place.Place.TheVariants as at

-- the keys of the fields of a table there: those by which tables are read, merged and copied
abbrev pub keys_at : Place → List (List ℕ)
keys_at at.Config = keys_of_fields config_fields
keys_at at.Build = keys_of_fields build_fields
keys_at at.CargoNew = keys_of_fields new_fields
keys_at at.Doc = keys_of_fields doc_fields
keys_at at.Variable = keys_of_fields env_fields
keys_at at.Report = keys_of_fields report_fields
keys_at at.Http = keys_of_fields http_fields
keys_at at.Net = keys_of_fields net_fields
keys_at at.NamedRegistry = keys_of_fields registries_fields
keys_at at.Registry = keys_of_fields registry_fields
keys_at at.Source = keys_of_fields source_fields
keys_at at.Target = keys_of_fields target_fields
keys_at at.Term = keys_of_fields term_fields
keys_at at.Progress = keys_of_fields progress_fields
keys_at _ = []

-- the keys that Cargo 1.95 alone reads there: data, of which nothing is proved
abbrev pub cargo_keys_at : Place → List (List ℕ)
cargo_keys_at at.Config =
    codes "cache" ∷ codes "host" ∷ codes "include" ∷ codes "install" ∷ codes "patch" ∷ codes "path-bases" ∷ codes "paths"
    ∷ codes "profile" ∷ codes "resolver" ∷ codes "target-applies-to-host" ∷ codes "unstable" ∷ []
cargo_keys_at at.Build = codes "analysis" ∷ codes "artifact-dir" ∷ codes "pipelining" ∷ codes "sbom" ∷ codes "warnings" ∷ []
cargo_keys_at at.CargoNew = codes "email" ∷ codes "name" ∷ []
cargo_keys_at at.Doc = codes "extern-map" ∷ []
cargo_keys_at at.Http = codes "proxy-cainfo" ∷ codes "ssl-version" ∷ []
cargo_keys_at at.Install = codes "root" ∷ []
cargo_keys_at at.Net = codes "ssh" ∷ []
cargo_keys_at at.Profile =
    codes "build-override" ∷ codes "codegen-backend" ∷ codes "codegen-units" ∷ codes "debug"
    ∷ codes "debug-assertions" ∷ codes "dir-name" ∷ codes "hint-mostly-unused" ∷ codes "incremental"
    ∷ codes "inherits" ∷ codes "lto" ∷ codes "opt-level" ∷ codes "overflow-checks" ∷ codes "package"
    ∷ codes "panic" ∷ codes "rpath" ∷ codes "rustflags" ∷ codes "split-debuginfo" ∷ codes "strip"
    ∷ codes "trim-paths" ∷ []
cargo_keys_at at.NamedRegistry = codes "secret-key" ∷ codes "secret-key-subject" ∷ []
cargo_keys_at at.Registry = codes "secret-key" ∷ codes "secret-key-subject" ∷ []
cargo_keys_at at.Resolver =
    codes "feature-unification" ∷ codes "incompatible-rust-versions" ∷ codes "lockfile-path" ∷ []
cargo_keys_at at.Target = codes "ar" ∷ []
cargo_keys_at at.Term = codes "hyperlinks" ∷ codes "unicode" ∷ []
cargo_keys_at at.Progress = codes "term-integration" ∷ []
cargo_keys_at _ = []

-- Cargo alone reads the table, and its keys are known
abbrev pub is_cargo_only : Place → Bool
is_cargo_only at.Install = true
is_cargo_only at.Packages = true
is_cargo_only at.Profile = true
is_cargo_only at.Profiles = true
is_cargo_only at.Resolver = true
is_cargo_only _ = false

-- the key is one of these
abbrev pub is_among : List (List ℕ) → List ℕ → Bool
is_among keys key = list_any (λ known. bytes_eq known key) keys

-- the place of a table of the configuration
abbrev pub section : List ℕ → Place
section key =
    if bytes_eq key (codes "alias") then at.Aliases
    else if bytes_eq key (codes "build") then at.Build
    else if bytes_eq key (codes "cargo-new") then at.CargoNew
    else if bytes_eq key (codes "credential-alias") then at.Commands
    else if bytes_eq key (codes "doc") then at.Doc
    else if bytes_eq key (codes "env") then at.Variables
    else if bytes_eq key (codes "future-incompat-report") then at.Report
    else if bytes_eq key (codes "http") then at.Http
    else if bytes_eq key (codes "net") then at.Net
    else if bytes_eq key (codes "registries") then at.Registries
    else if bytes_eq key (codes "registry") then at.Registry
    else if bytes_eq key (codes "source") then at.Sources
    else if bytes_eq key (codes "target") then at.Targets
    else if bytes_eq key (codes "term") then at.Term
    else at.Whole

-- the place of the value at the key of a field
abbrev pub listed_place : Place → List ℕ → Place
listed_place at.Config key = section key
listed_place at.Term key = if bytes_eq key (codes "progress") then at.Progress else at.Whole
listed_place _ key = at.Whole

-- the place of the value at another key: a name, or below a target a table of a native library
abbrev pub other_place : Place → Bool → Option Place
other_place at.Aliases is_table = Some at.Whole
other_place at.Commands is_table = Some at.Whole
other_place at.Whole is_table = Some at.Whole
other_place at.Variables is_table = Some at.Variable
other_place at.Registries is_table = Some at.NamedRegistry
other_place at.Sources is_table = Some at.Source
other_place at.Targets is_table = Some at.Target
other_place at.Target is_table = if is_table then Some at.Whole else None
other_place _ is_table = None

-- the place of the value at a key, which a table may be; none where this library doesn't read the key
abbrev pub below : Place → List ℕ → Bool → Option Place
below place key is_table = if is_among (keys_at place) key then Some (listed_place place key) else other_place place is_table

-- the place of a table of the configuration that Cargo alone reads
abbrev pub cargo_section : List ℕ → Option Place
cargo_section key =
    if bytes_eq key (codes "install") then Some at.Install
    else if bytes_eq key (codes "profile") then Some at.Profiles
    else if bytes_eq key (codes "resolver") then Some at.Resolver
    else None

-- the place of a table of a profile
abbrev pub profile_table : List ℕ → Option Place
profile_table key =
    if bytes_eq key (codes "build-override") then Some at.Profile
    else if bytes_eq key (codes "package") then Some at.Packages
    else None

-- the place of the value at a key that Cargo alone reads, where the keys below it are known
abbrev pub cargo_below : Place → List ℕ → Option Place
cargo_below at.Config key = cargo_section key
cargo_below at.Packages key = Some at.Profile
cargo_below at.Profile key = profile_table key
cargo_below at.Profiles key = Some at.Profile
cargo_below _ key = None

abbrev pub first_place : Option Place → Option Place → Option Place
first_place (Some place) o = Some place
first_place None o = o

-- the place of the value at a key that this library reads, or that Cargo alone reads
abbrev pub opened : Place → List ℕ → Bool → Option Place
opened place key is_table = first_place (below place key is_table) (cargo_below place key)
