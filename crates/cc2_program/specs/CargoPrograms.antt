-- What `rustc --rules cargo` and `host --rules cargo` print: the command for rustc that Cargo 1.95 itself runs, and the host
-- that this rustc reports.
use Rattle.std.specs.Prelude.{◌≡◌, ℕ, false, List, Result}
use Rattle.cc2_error.specs.Causes.{Refusal}
use Rattle.cc2_base.specs.Told.{Tree}
use Rattle.cc2_base.specs.ToldPrograms.{Answers}
use Rattle.cc2_base.specs.declared.machine.Machine.{Machine}
use Rattle.cc2_cargo.specs.Raw.{raw_members_at}
use Rattle.cc2_cargo.specs.RealPaths.{RealPathMap}
use Rattle.cc2_cargo_settings.specs.Values.{on_ok}
use Rattle.cc2_cargo_target.specs.Rustc.{rustc_command}
use Rattle.cc2_cargo_target.specs.Target.{RawSettings}
use Rattle.cc2_cli.specs.CommandLines.{host_line, rustc_lines}
use Rattle.cc2_rustc.specs.AskedVersions.{rustc_host}
use Rattle.cc2_program.specs.CargoLoads.{PrintsOverSettings}
use Rattle.cargo_rules.specs.WithEnv.{AnswersWith, IsWithEnv}

-- what `rustc --rules cargo` prints, and its status
abbrev pub PrintsCargoRustc : Tree → RealPathMap → Machine → List ℕ → List (List ℕ) → List ℕ → ℕ → Type 0
PrintsCargoRustc fs reals machine dir overrides text status =
    PrintsOverSettings fs reals machine dir overrides rustc_lines (λ settings outcome. outcome ≡ rustc_command (raw_members_at settings) machine dir) text status

-- the host by these settings
abbrev pub host_by : RawSettings → Machine → List ℕ → Answers → Result (List ℕ) Refusal
host_by settings machine dir answers = on_ok (λ rustc. rustc_host false answers rustc) (rustc_command (raw_members_at settings) machine dir)

-- what `host --rules cargo` prints, and its status
abbrev pub PrintsCargoHost : Tree → RealPathMap → AnswersWith → Machine → List ℕ → List (List ℕ) → List ℕ → ℕ → Type 0
PrintsCargoHost fs reals answers machine dir overrides text status =
    PrintsOverSettings fs reals machine dir overrides host_line (λ settings outcome. IsWithEnv (λ own o. o ≡ host_by settings machine dir own) settings machine dir answers outcome)
    text status
