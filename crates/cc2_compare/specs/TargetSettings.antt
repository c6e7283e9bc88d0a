-- The settings of targets by both rules, compared as `target` prints them.
use Rattle.std.specs.Prelude.{◌≡◌, ℕ, false, List, [], ◌∷◌, codes, Result}
use Rattle.std.specs.Result.{result_map_both}
use Rattle.serde_json.specs.Data.{Data}
use Rattle.cc2_base.specs.Told.{Tree}
use Rattle.cc2_base.specs.ToldPrograms.{Answers}
use Rattle.cc2_base.specs.declared.machine.Machine.{Machine}
use Rattle.cc2_cargo.specs.RealPaths.{RealPathMap}
use Rattle.cc2_error.specs.Causes.{Refusal}
use Rattle.cc2_json.specs.AtKey.{alone_at}
use Rattle.cc2_reports.specs.Problems.{Subject}
use Rattle.cc2_target_answers.specs.CargoTargets.{AreTargets}
use Rattle.cc2_target_answers.specs.CrateTargets.{AreCrateTargets}
use Rattle.cargo_rules.specs.WithEnv.{AnswersWith}
use Rattle.cc2_compare.specs.Between.{AreBetween}

-- an object of targets, in a table `target`
abbrev pub in_table : Result Data Refusal → Result Data Refusal
in_table found = result_map_both (alone_at (codes "target" ∷ [])) (λ refusal. refusal) found

-- what cargo-config2 0.1.45 resolves for these targets in a directory, where these are the answers of programs
abbrev pub IsOfCrate : Tree → Answers → Machine → List ℕ → List (List ℕ) → Result Data Refusal → Type 0
IsOfCrate fs answers machine dir targets outcome =
    (found : Result Data Refusal) × AreCrateTargets fs answers machine dir [] targets found × (outcome ≡ in_table found)

-- what Cargo uses for them, where these are the answers of programs by the variables that they are run with
abbrev pub IsOfCargo : Tree → RealPathMap → AnswersWith → Machine → List ℕ → List (List ℕ) → Result Data Refusal → Type 0
IsOfCargo fs reals own machine dir targets outcome =
    (found : Result Data Refusal) × AreTargets fs reals own machine dir [] targets false found × (outcome ≡ in_table found)

-- The settings of these targets are reported where they differ; once, where one of them refuses them, or both.
-- cargo-config2 0.1.45 runs rustc without variables of its own.
abbrev pub AreTargetsCompared : Tree → RealPathMap → AnswersWith → Machine → List ℕ → List (List ℕ) → List Subject → Type 0
AreTargetsCompared fs reals own machine dir targets subjects =
    (of_crate : Result Data Refusal) × (of_cargo : Result Data Refusal) × IsOfCrate fs (own []) machine dir targets of_crate
    × IsOfCargo fs reals own machine dir targets of_cargo × AreBetween dir (codes "target" ∷ []) of_crate of_cargo subjects
