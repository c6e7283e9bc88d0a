-- The settings that Cargo reads by a fixed name. Cargo Reference, Configuration, configuration keys, and Environment
-- Variables, environment variables Cargo reads.
use Rattle.std.specs.Prelude.{◌≡◌, ℕ, codes, List, [], ◌∷◌, map, Option, Some, None, option_map}
use Rattle.cc2_cargo.specs.Raw.{Path}
use Rattle.cc2_cargo_settings.specs.Names.{key_variable}
use Rattle.cc2_cargo_settings.specs.declared.check.Check.TheVariants.{Color, Directory, Progress, RustVersions, VersionControl}
use Rattle.cc2_cargo_settings.specs.declared.check.Width.TheVariants.{Long, Short}
use Rattle.cc2_cargo_settings.specs.declared.mixed.Mixed.TheVariants.{Jobs}
use Rattle.cc2_cargo_settings.specs.declared.setting.Kind.{Kind}
use Rattle.cc2_cargo_settings.specs.declared.setting.Kind.TheVariants.{Text, Checked, Flag, Number, Words, Command, TextOrList, Mixed}
use Rattle.cc2_cargo_settings.specs.declared.setting.Setting.{Setting}

-- a setting: its path, what it is read as, and a variable of its own, which precedes what else sets it
pub record Row : Type 0 where
  pub path : Path
  pub kind : Kind
  pub own : Option (List ℕ)

abbrev pub row : Path → Kind → Option (List ℕ) → Row
row path kind own = record { path = path; kind = kind; own = own }

abbrev pub row_of : Setting → Row
row_of s = row (map (λ k. k.now) s.path.now) s.kind (option_map (λ name. name.now) s.own)

-- its variable is that of its path
abbrev pub HasName : Setting → Type 0
HasName s = s.variable.now ≡ key_variable (map (λ k. k.now) s.path.now)

abbrev pub plain_row : Kind → Path → Row
plain_row kind path = row path kind None

-- a row with a variable of its own
abbrev own_row : Kind → Path → List ℕ → Row
own_row kind path name = row path kind (Some name)

abbrev two : List ℕ → List ℕ → Path
two k l = k ∷ (l ∷ [])

abbrev three : List ℕ → List ℕ → List ℕ → Path
three k l m = k ∷ (l ∷ (m ∷ []))

abbrev build : List ℕ → Path
build key = two (codes "build") key

abbrev http : List ℕ → Path
http key = two (codes "http") key

abbrev net : List ℕ → Path
net key = two (codes "net") key

abbrev registry : List ℕ → Path
registry key = two (codes "registry") key

abbrev term : List ℕ → Path
term key = two (codes "term") key

abbrev progress : List ℕ → Path
progress key = three (codes "term") (codes "progress") key

abbrev pub rows : List Row
rows =
    own_row Flag (build (codes "incremental")) (codes "CARGO_INCREMENTAL")
    ∷ (own_row Text (build (codes "rustc")) (codes "RUSTC")
    ∷ (own_row Text (build (codes "rustc-wrapper")) (codes "RUSTC_WRAPPER")
    ∷ (own_row Text (build (codes "rustc-workspace-wrapper")) (codes "RUSTC_WORKSPACE_WRAPPER")
    ∷ (own_row Text (build (codes "rustdoc")) (codes "RUSTDOC")
    ∷ (own_row (Checked Directory) (build (codes "target-dir")) (codes "CARGO_TARGET_DIR")
    ∷ (plain_row (Checked Directory) (build (codes "build-dir"))
    ∷ (plain_row Text (build (codes "dep-info-basedir"))
    ∷ (plain_row (Mixed Jobs) (build (codes "jobs"))
    ∷ (plain_row Words (build (codes "rustdocflags"))
    ∷ (plain_row Words (build (codes "rustflags"))
    ∷ (plain_row TextOrList (build (codes "target"))
    ∷ (plain_row Text (two (codes "cache") (codes "auto-clean-frequency"))
    ∷ (plain_row (Checked VersionControl) (two (codes "cargo-new") (codes "vcs"))
    ∷ (plain_row Command (two (codes "doc") (codes "browser"))
    ∷ (plain_row Text (two (codes "future-incompat-report") (codes "frequency"))
    ∷ (plain_row Text (http (codes "cainfo"))
    ∷ (plain_row Flag (http (codes "check-revoke"))
    ∷ (plain_row Flag (http (codes "debug"))
    ∷ (plain_row (Number Short) (http (codes "low-speed-limit"))
    ∷ (plain_row Flag (http (codes "multiplexing"))
    ∷ (plain_row Text (http (codes "proxy"))
    ∷ (plain_row Text (http (codes "proxy-cainfo"))
    ∷ (plain_row (Number Long) (http (codes "timeout"))
    ∷ (plain_row Text (http (codes "user-agent"))
    ∷ (plain_row Text (two (codes "install") (codes "root"))
    ∷ (plain_row Flag (net (codes "git-fetch-with-cli"))
    ∷ (plain_row Flag (net (codes "offline"))
    ∷ (plain_row (Number Short) (net (codes "retry"))
    ∷ (plain_row Words (three (codes "net") (codes "ssh") (codes "known-hosts"))
    ∷ (plain_row Command (registry (codes "credential-provider"))
    ∷ (plain_row Text (registry (codes "default"))
    ∷ (plain_row Words (registry (codes "global-credential-providers"))
    ∷ (plain_row Text (registry (codes "secret-key"))
    ∷ (plain_row Text (registry (codes "secret-key-subject"))
    ∷ (plain_row Text (registry (codes "token"))
    ∷ (plain_row (Checked RustVersions) (two (codes "resolver") (codes "incompatible-rust-versions"))
    ∷ (plain_row (Checked Color) (term (codes "color"))
    ∷ (plain_row Flag (term (codes "hyperlinks"))
    ∷ (plain_row Flag (term (codes "quiet"))
    ∷ (plain_row Flag (term (codes "unicode"))
    ∷ (plain_row Flag (term (codes "verbose"))
    ∷ (plain_row Flag (progress (codes "term-integration"))
    ∷ (plain_row (Checked Progress) (progress (codes "when"))
    ∷ (plain_row (Number Long) (progress (codes "width"))
    ∷ []))))))))))))))))))))))))))))))))))))))))))))
