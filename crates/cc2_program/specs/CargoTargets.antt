-- What `target --rules cargo` prints: what Cargo 1.95 itself uses for targets.
use Rattle.std.specs.Prelude.{ℕ, Bool, List}
use Rattle.cc2_base.specs.Told.{Tree}
use Rattle.cc2_base.specs.declared.machine.Machine.{Machine}
use Rattle.cc2_cargo.specs.RealPaths.{RealPathMap}
use Rattle.cargo_rules.specs.WithEnv.{AnswersWith, IsWithEnv}
use Rattle.cc2_program.specs.CargoLoads.{PrintsOverSettings}
use Rattle.cc2_program.specs.Queries.{settings_text}
use Rattle.cc2_command_line.specs.declared.choice.TargetFormat.{TargetFormat}
use Rattle.cc2_target_answers.specs.CargoTargets.{AreAsked}

-- what `target --rules cargo` with these texts prints, and its status; with `--build-scripts` where that is true
abbrev pub PrintsCargoTargets : Tree → RealPathMap → AnswersWith → Machine → List ℕ → List (List ℕ) → List (List ℕ) → Bool → TargetFormat → List ℕ → ℕ → Type 0
PrintsCargoTargets fs reals answers machine dir overrides texts build_scripts how text status =
    PrintsOverSettings fs reals machine dir overrides (settings_text how)
    (λ settings outcome. IsWithEnv (λ own o. AreAsked settings machine dir texts own build_scripts o) settings machine dir answers outcome) text status
