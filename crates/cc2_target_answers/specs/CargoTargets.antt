-- What targets come to by the rules of Cargo 1.95 itself.
use Rattle.std.specs.Prelude.{◌≡◌, ◌⊎◌, ℕ, Bool, true, false, List, [], ◌∷◌, Result, Ok, Err}
use Rattle.serde_json.specs.Data.{Data, Members, no_members, object}
use Rattle.serde_json.specs.Data as json
use Rattle.cc2_error.specs.Causes.{Refusal, refusal_of}
use Rattle.cc2_error.specs.Commands.{Command}
use Rattle.cc2_error.specs.Outcomes.{IsWantOfMemory}
use Rattle.cc2_error.specs.declared.error.Error.{Error}
use Rattle.cc2_base.specs.Told.{Tree}
use Rattle.cc2_base.specs.ToldPrograms.{Answers}
use Rattle.cc2_base.specs.declared.machine.Machine.{Machine}
use Rattle.cc2_cargo.specs.Raw.{raw_members_at}
use Rattle.cc2_cargo.specs.RealPaths.{RealPathMap}
use Rattle.cc2_cargo_settings.specs.Values.{on_ok}
use Rattle.cc2_cargo_target.specs.HostArtifacts.{AreHostArtifacts, HostAnswer}
use Rattle.cc2_cargo_target.specs.Rustc.{rustc_command}
use Rattle.cc2_cargo_target.specs.Target.{IsTarget, RawSettings}
use Rattle.cc2_cargo_target.specs.Targets.{targets_of}
use Rattle.cc2_resolved.specs.TargetConfigs.{TargetAnswer}
use Rattle.cargo_rules.specs.WithEnv.{AnswersWith, IsWithEnv}
use Rattle.cc2_target_answers.specs.CargoLoads.{IsOverSettings}
use Rattle.cc2_target_answers.specs.Settings.{settings_data}

module _ (settings : RawSettings) (machine : Machine) (dir : List ℕ) (rustc : Command) (answers : Answers) where
  -- the settings of a target are put at its triple; or it has this error; or memory ran out
  abbrev pub IsCargoPut : List ℕ → Members → Members → Result (Unit {0}) Error → Type 0
  IsCargoPut triple was now (Ok done) =
      (a : TargetAnswer) × IsTarget settings machine dir triple rustc answers (Ok a) × (now ≡ json.put triple (settings_data a) was)
  IsCargoPut triple was now (Err e) = IsWantOfMemory e ⊎ IsTarget settings machine dir triple rustc answers (Err (refusal_of e))

  -- the targets after one that has settings, or its error
  abbrev pub AreNext : Result TargetAnswer Refusal → (TargetAnswer → Type 0) → Result Data Refusal → Type 0
  AreNext (Ok a) Next outcome = Next a
  AreNext (Err refusal) Next outcome = outcome ≡ Err refusal

  -- the settings of each target are put at its triple, one after another; or the first error
  abbrev pub ArePut : List (List ℕ) → Members → Result Data Refusal → Type 0
  ArePut [] ms outcome = outcome ≡ Ok (object ms)
  ArePut (triple ∷ triples) ms outcome =
      (target : Result TargetAnswer Refusal) × IsTarget settings machine dir triple rustc answers target
      × AreNext target (λ a. ArePut triples (json.put triple (settings_data a) ms) outcome) outcome

  -- what the targets of these triples come to, or why there are none
  abbrev pub ArePutAll : Result (List (List ℕ)) Refusal → Result Data Refusal → Type 0
  ArePutAll (Ok triples) outcome = ArePut triples no_members outcome
  ArePutAll (Err refusal) outcome = outcome ≡ Err refusal

module _ (settings : RawSettings) (machine : Machine) (dir : List ℕ) (texts : List (List ℕ)) (answers : Answers) where
  -- what the targets come to that are asked for by these texts, with this command for rustc
  abbrev pub AreByRustc : Result Command Refusal → Result Data Refusal → Type 0
  AreByRustc (Ok rustc) outcome =
      ArePutAll settings machine dir rustc answers (targets_of (raw_members_at settings) machine rustc answers texts) outcome
  AreByRustc (Err refusal) outcome = outcome ≡ Err refusal

  -- what they come to by these settings, where these are the answers of programs
  abbrev pub AreCargoTargets : Result Data Refusal → Type 0
  AreCargoTargets outcome = AreByRustc (rustc_command (raw_members_at settings) machine dir) outcome

-- an object of the host with the settings of build scripts and procedural macros
abbrev pub artifacts_object : HostAnswer → Data
artifacts_object a = object (json.put a.host (settings_data a.settings) no_members)

module _ (settings : RawSettings) (machine : Machine) (dir : List ℕ) (texts : List (List ℕ)) (answers : Answers) where
  -- what they have where the targets of these texts are built, with this command for rustc
  abbrev pub IsArtifactsByRustc : Result Command Refusal → Result Data Refusal → Type 0
  IsArtifactsByRustc (Ok rustc) outcome =
      (found : Result HostAnswer Refusal) × AreHostArtifacts settings machine dir rustc answers texts found
      × (outcome ≡ on_ok (λ a. Ok (artifacts_object a)) found)
  IsArtifactsByRustc (Err refusal) outcome = outcome ≡ Err refusal

  -- what targets come to, or build scripts and procedural macros in their place
  abbrev pub AreAsked : Bool → Result Data Refusal → Type 0
  AreAsked true outcome = IsArtifactsByRustc (rustc_command (raw_members_at settings) machine dir) outcome
  AreAsked false outcome = AreCargoTargets settings machine dir texts answers outcome

-- the same by the configuration of a directory under these overrides, where rustc is run with the variables of `[env]`; of build
-- scripts and procedural macros where that is true
abbrev pub AreTargets : Tree → RealPathMap → AnswersWith → Machine → List ℕ → List (List ℕ) → List (List ℕ) → Bool → Result Data Refusal → Type 0
AreTargets fs reals answers machine dir overrides texts build_scripts outcome =
    IsOverSettings fs reals machine dir overrides
    (λ settings o. IsWithEnv (λ own r. AreAsked settings machine dir texts own build_scripts r) settings machine dir answers o) outcome
