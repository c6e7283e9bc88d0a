-- What `target` and `version` come to, and what is printed of it.
use Rattle.std.specs.Prelude.{◌≡◌, ℕ, Bool, true, false, List, [], ◌∷◌, ◌++◌, codes, map, Option, Some, None, Result, Ok, Err}
use Rattle.std.specs.Fmt.{decimal}
use Rattle.serde_json.specs.Data.{Data}
use Rattle.cc2_error.specs.Causes.{Refusal}
use Rattle.cc2_base.specs.Told.{Tree}
use Rattle.cc2_base.specs.ToldPrograms.{Answers}
use Rattle.cc2_base.specs.declared.machine.Machine.{Machine}
use Rattle.cc2_rustc.specs.AskedVersions.{rustc_version_said, cargo_version_said}
use Rattle.cc2_rustc.specs.Versions.{Version}
use Rattle.cargo_config2.specs.Kept.{asked_by}
use Rattle.cargo_config2.specs.declared.config.Config.{Config}
use Rattle.cc2_cli.specs.Choices.{Choice}
use Rattle.cc2_cli.specs.Endings.{outcome_text, outcome_status}
use Rattle.cc2_answers.specs.Choices.{IsOverLoad, override_of}
use Rattle.cc2_answers.specs.SeveralRuns.{as_it_is}
use Rattle.cc2_json.specs.AtKey.{alone_at, json_line}
use Rattle.cc2_json.specs.TomlLines.{toml_lines}
use Rattle.cc2_target_answers.specs.CrateTargets.{IsTargetsOutcome}
use Rattle.cc2_command_line.specs.declared.choice.TargetFormat.{TargetFormat}
use Rattle.cc2_command_line.specs.declared.choice.TargetFormat.TheVariants as format

-- ---- over a load

-- the text and the status are those of what a question comes to over a load
abbrev pub PrintsOverLoad : {A : Type 0} → (A → List ℕ) → (Config → Result A Refusal → Type 0) → Tree → Machine → List ℕ → List Choice → List ℕ → ℕ → Type 0
PrintsOverLoad {A} lines Is fs machine dir choices text status =
    (outcome : Result A Refusal) × IsOverLoad fs machine dir (map override_of choices) Is outcome
    × (text ≡ outcome_text lines outcome) × (status ≡ outcome_status outcome)

-- ---- targets

-- the settings as lines of TOML, or as one line of JSON
abbrev pub settings_text : TargetFormat → Data → List ℕ
settings_text format.Toml d = toml_lines false (codes "target" ∷ []) d
settings_text format.Json d = json_line (alone_at (codes "target" ∷ []) d)

-- what `target` with these texts prints, and its status
abbrev pub PrintsTargets : Tree → Answers → Machine → List ℕ → List Choice → List (List ℕ) → TargetFormat → List ℕ → ℕ → Type 0
PrintsTargets fs answers machine dir choices texts how text status =
    PrintsOverLoad (settings_text how) (λ c outcome. IsTargetsOutcome fs answers c texts outcome) fs machine dir choices text status

-- ---- versions

-- a dot and the patch version, where it is known
abbrev pub patch_part : Option ℕ → List ℕ
patch_part None = []
patch_part (Some patch) = codes "." ++ decimal patch

-- a mark of a nightly version
abbrev pub channel_part : Bool → List ℕ
channel_part true = codes "-nightly"
channel_part false = []

-- the line of a version: the program's name, two or three numbers, and the mark
abbrev pub program_line : List ℕ → Version → List ℕ
program_line name v =
    name ++ (codes " " ++ (decimal v.major ++ (codes "." ++ (decimal v.minor ++ (patch_part v.patch ++ (channel_part v.nightly ++ codes "\n"))))))

-- the lines of rustc's version and of cargo's, and by which Cargo's rules answers are; or why rustc's isn't known, or else cargo's
abbrev pub versions_outcome : Result Version Refusal → Result Version Refusal → Result (List ℕ) Refusal
versions_outcome (Err refusal) cargo = Err refusal
versions_outcome (Ok rustc) (Err refusal) = Err refusal
versions_outcome (Ok rustc) (Ok cargo) =
    Ok ((program_line (codes "rustc") rustc ++ program_line (codes "cargo") cargo) ++ codes "rules of Cargo 1.95\n")

-- what `version` comes to by a configuration
abbrev pub IsVersionsOutcome : Tree → Answers → Config → Result (List ℕ) Refusal → Type 0
IsVersionsOutcome fs answers c outcome =
    outcome ≡ versions_outcome (rustc_version_said (asked_by fs c) answers) (cargo_version_said (asked_by fs c) answers)

-- what `version` prints, and its status
abbrev pub PrintsVersions : Tree → Answers → Machine → List ℕ → List Choice → List ℕ → ℕ → Type 0
PrintsVersions fs answers machine dir choices text status =
    PrintsOverLoad as_it_is (λ c outcome. IsVersionsOutcome fs answers c outcome) fs machine dir choices text status
