-- What each finding is reported as: its lint, and the keys that lead to it.
use Rattle.std.specs.Prelude.{◌≡◌, ℕ, Bool, true, false, not, ◌&&◌, List, [], ◌∷◌, ◌++◌, map, codes, bytes_eq, string_bytes, is_some, eqb, Option, Some, None, if◌then◌else◌}
use Rattle.std.specs.List.{ends_with}
use Rattle.cc2_base.specs.Told.{Tree}
use Rattle.cc2_rustc.specs.Keys.{is_cfg}
use Rattle.cc2_findings.specs.Clashes.{Clash}
use Rattle.cc2_findings.specs.Findings.{Found}
use Rattle.cc2_findings.specs.declared.alone.ValueFault.{ValueFault}
use Rattle.cc2_findings.specs.declared.cfg_key.KeyFault.{KeyFault}
use Rattle.cc2_findings.specs.declared.cfg_key.KeyFault.TheVariants.{NoExpression, NeverHolds, DebugAssertions}
use Rattle.cc2_findings.specs.declared.file.FileFault.{FileFault}
use Rattle.cc2_findings.specs.declared.file.FileFault.TheVariants.{Unreadable, NotText, NotToml, BadValue}
use Rattle.cc2_findings.specs.declared.form.Form.{Form}
use Rattle.cc2_findings.specs.declared.form.Form.TheVariants as form
use Rattle.cc2_findings.specs.declared.kind.Kind.{Kind}
use Rattle.cc2_findings.specs.declared.kind.Kind.TheVariants as kind
use Rattle.cc2_lint_settings.specs.Keys.{Hidden}
use Rattle.cc2_reports.specs.Problems.{Subject, subject_at, subjects_of}
use Rattle.cc2_reports.specs.declared.lint.Lint.{Lint}
use Rattle.cc2_reports.specs.declared.lint.Lint.TheVariants as lint
use Rattle.cc2_reports.specs.declared.report.Report.{Report}
use Rattle.cc2_lint_settings.specs.Givers.{where_true}
use Rattle.cc2_lint_settings.specs.Rivals.{Rival}

-- reports about these are appended
abbrev pub Appends : List Report → List Subject → List Report → Type 0
Appends was subjects now = subjects_of now ≡ subjects_of was ++ subjects

-- a key of a table `cfg(..)` below `target`
abbrev pub is_below_cfg : List (List ℕ) → Bool
is_below_cfg (table ∷ (key ∷ (last ∷ []))) = bytes_eq table (codes "target") && is_cfg key
is_below_cfg keys = false

-- the lint of a finding at these keys
abbrev pub lint_for : List (List ℕ) → Kind → Lint
lint_for keys kind.UnknownKey = lint.UnknownKey
lint_for keys kind.CargoOnly = if is_below_cfg keys then lint.IgnoredKey else lint.CargoOnly
lint_for keys kind.IgnoredDocFlags = lint.IgnoredKey
lint_for keys kind.HiddenAlias = lint.ShadowedAlias
lint_for keys kind.ZeroJobs = lint.ZeroJobs
lint_for keys kind.NoLocation = lint.SourceWithoutLocation
lint_for keys kind.ManyLocations = lint.SourceWithLocations
lint_for keys kind.Token = lint.Token
lint_for keys kind.QuotedTriple = lint.QuotedTriple
lint_for keys kind.OtherSpace = lint.IgnoredCfg
lint_for keys kind.RemovedKey = lint.RemovedKey
lint_for keys kind.TextInclude = lint.BadInclude
lint_for keys kind.EmptyDirectory = lint.EmptyPath
lint_for keys kind.BadTemplate = lint.BadTemplate
lint_for keys kind.EmptyWrapper = lint.EmptyWrapper
lint_for keys kind.JsonTarget = lint.JsonTarget
lint_for keys kind.QuietAndVerbose = lint.QuietAndVerbose

-- the keys that are reported of a finding at these: some are about a key below
abbrev pub whole_keys : List (List ℕ) → Kind → List (List ℕ)
whole_keys keys kind.QuietAndVerbose = keys ++ codes "quiet" ∷ []
whole_keys keys kind.IgnoredDocFlags = keys ++ codes "rustdocflags" ∷ []
whole_keys keys k = keys

abbrev pub is_of_token : Kind → Bool
is_of_token kind.Token = true
is_of_token k = false

-- one of these is a token
abbrev pub has_token : List (Found Kind) → Bool
has_token [] = false
has_token (f ∷ fs) = if is_of_token f.1 then true else has_token fs

abbrev pub fault_lint : KeyFault → Lint
fault_lint (NoExpression error) = lint.InvalidCfg
fault_lint NeverHolds = lint.NeverMatches
fault_lint DebugAssertions = lint.DebugAssertions

abbrev pub are_same : Form → Form → Bool
are_same form.Single form.Single = true
are_same form.Text form.Text = true
are_same form.List form.List = true
are_same form.Table form.Table = true
are_same f g = false

abbrev pub name_lint : Bool → Lint
name_lint true = lint.ShadowedFile
name_lint false = lint.OldFileName

module _ (file : List ℕ) where
  abbrev pub finding_subject : Found Kind → Subject
  finding_subject f = subject_at file (lint_for f.0 f.1) (whole_keys f.0 f.1)

  -- A token is reported where others than its owner can read the file, and where the file isn't in the cargo home.
  -- Anything else is reported once.
  abbrev pub finding_subjects : Bool → Bool → Found Kind → List Subject
  finding_subjects is_open is_home f =
      where_true (is_of_token f.1 && is_open) (subject_at file lint.ReadableToken f.0)
      ++ where_true (not (is_of_token f.1 && is_home)) (finding_subject f)

  -- a key of `target` with what is wrong with it
  abbrev pub key_subject : List ℕ × KeyFault → Subject
  key_subject f = subject_at file (fault_lint f.1) (codes "target" ∷ (f.0 ∷ []))

  -- a value that a load refuses, and that Cargo accepts or doesn't
  abbrev pub value_subject : (ValueFault → Bool) → ValueFault → Subject
  value_subject accepted f =
      subject_at file (if accepted f then lint.CargoAccepts else lint.BadValue) (map string_bytes f.path.items)

  abbrev pub unresolved_subject : ValueFault → Subject
  unresolved_subject f = subject_at file lint.Unresolvable (map string_bytes f.path.items)

  -- a nearer file's value is used in place of this one, or the two can't be merged
  abbrev pub clash_subject : Clash → Subject
  clash_subject c = subject_at file (if are_same c.form c.nearer then lint.Overridden else lint.MixedTypes) c.path

  abbrev pub hidden_subject : Hidden → Subject
  hidden_subject h = subject_at file lint.OverriddenByVariable h.0

  abbrev pub rival_subject : Rival → Subject
  rival_subject r = subject_at file lint.ConflictingCfg r.0

  abbrev pub fault_subject : FileFault → Subject
  fault_subject Unreadable = subject_at file lint.Unreadable []
  fault_subject NotText = subject_at file lint.NotUtf8 []
  fault_subject (NotToml fault) = subject_at file lint.InvalidToml []
  fault_subject (BadValue e) = subject_at file lint.BadValue []

  -- why the file doesn't load, unless values are reported: they say more
  abbrev pub load_subjects : Option FileFault → List ValueFault → List Subject
  load_subjects None values = []
  load_subjects (Some fault) [] = fault_subject fault ∷ []
  load_subjects (Some fault) (value ∷ values) = []

  -- a file that is called `config`, beside a `config.toml` or without one
  abbrev pub name_subjects : Tree → List Subject
  name_subjects fs =
      where_true (ends_with eqb file (codes "/config"))
      (subject_at file (name_lint (is_some (fs (file ++ codes ".toml")))) [])
