-- What targets come to by the rules of cargo-config2 0.1.45.
use Rattle.std.specs.Prelude.{◌≡◌, ◌⊎◌, ℕ, List, [], ◌∷◌, ◌++◌, map, Option, Some, None, option_map, option_and_then, Result, Ok, Err}
use Rattle.serde_json.specs.Data.{Data, Members, no_members, object}
use Rattle.serde_json.specs.Data as json
use Rattle.cc2_error.specs.Causes.{Refusal, refusal_of, plain, spec_name}
use Rattle.cc2_error.specs.Commands.{Command}
use Rattle.cc2_error.specs.Outcomes.{IsWantOfMemory}
use Rattle.cc2_error.specs.declared.error.Error.{Error}
use Rattle.cc2_base.specs.Told.{Tree}
use Rattle.cc2_base.specs.ToldPrograms.{Answers}
use Rattle.cc2_base.specs.declared.machine.Machine.{Machine}
use Rattle.cc2_resolved.specs.Targets.{Target, target_of}
use Rattle.cc2_rustc.specs.AskedVersions.{host_said}
use Rattle.cc2_target.specs.Settings.{Given}
use Rattle.cc2_resolved.specs.TargetConfigs.{TargetAnswer}
use Rattle.cargo_config2.specs.BuildTarget.{targets_for_config, targets_shown}
use Rattle.cargo_config2.specs.Kept.{asked_by, given_of}
use Rattle.cargo_config2.specs.RustcKept.{rustc_command_of}
use Rattle.cargo_config2.specs.Targets.{IsTargetAlone, IsTargetCause}
use Rattle.cargo_config2.specs.declared.config.Config.{Config}
use Rattle.cc2_cli.specs.Choices.{Choice}
use Rattle.cc2_answers.specs.Choices.{IsOverLoad, override_of}
use Rattle.cc2_target_answers.specs.Settings.{settings_data}

-- the targets of texts; none where one of them has no target
abbrev pub all_targets : List (List ℕ) → Option (List Target)
all_targets [] = Some []
all_targets (text ∷ texts) = option_and_then (λ target. option_map (λ targets. target ∷ targets) (all_targets texts)) (target_of text)

-- members with the settings of each target put at its triple, in turn
abbrev pub with_settings : List Target → List TargetAnswer → Members → Members
with_settings [] found ms = ms
with_settings (t ∷ targets) [] ms = ms
with_settings (t ∷ targets) (a ∷ found) ms = with_settings targets found (json.put t.triple (settings_data a) ms)

-- an object of them
abbrev pub settings_object : List Target → List TargetAnswer → Data
settings_object targets found = object (with_settings targets found no_members)

module _ (g : Given) (rustc : Command) (answers : Answers) where
  -- each target has the settings in its place, and no cause why there are none
  abbrev pub AreFound : List Target → List TargetAnswer → Type 0
  AreFound [] [] = Unit {0}
  AreFound [] (a ∷ found) = ⊥
  AreFound (t ∷ targets) [] = ⊥
  AreFound (t ∷ targets) (a ∷ found) = IsTargetAlone g rustc answers t a × AreFound targets found

  -- a target is refused so, and all in front of it have settings
  pub record IsFirstRefused (targets : List Target) (refusal : Refusal) : Type 0 where
    pub front : List Target
    pub target : Target
    pub behind : List Target
    pub found : List TargetAnswer
    pub are : targets ≡ front ++ target ∷ behind
    pub answered : AreFound front found
    pub refused : IsTargetCause g rustc answers target refusal

  -- what targets come to: their settings, or the refusal of the first that is refused, or why there are no targets
  abbrev pub AreSettings : Result (List Target) Refusal → Result Data Refusal → Type 0
  AreSettings (Ok targets) (Ok d) = (found : List TargetAnswer) × AreFound targets found × (d ≡ settings_object targets found)
  AreSettings (Ok targets) (Err refusal) = IsFirstRefused targets refusal
  AreSettings (Err refusal) outcome = outcome ≡ Err refusal

  -- the settings of a target are put at its triple; or it is refused so; or memory ran out
  abbrev pub IsPut : Target → Members → Members → Result (Unit {0}) Error → Type 0
  IsPut t was now (Ok done) = (a : TargetAnswer) × IsTargetAlone g rustc answers t a × (now ≡ json.put t.triple (settings_data a) was)
  IsPut t was now (Err e) = IsWantOfMemory e ⊎ IsTargetCause g rustc answers t (refusal_of e)

module _ (fs : Tree) (answers : Answers) (c : Config) where
  -- the given targets, where there is one; else those of `build.target`, where there is one; else the host
  abbrev pub targets_by : List Target → Result (List Target) Refusal
  targets_by given = targets_for_config given (targets_shown c.build.target) (host_said (asked_by fs c) answers)

  -- what given targets come to; a text without a target is refused
  abbrev pub IsForGiven : Option (List Target) → Result Data Refusal → Type 0
  IsForGiven None outcome = outcome ≡ Err (plain spec_name)
  IsForGiven (Some given) outcome = AreSettings (given_of c) (rustc_command_of fs c) answers (targets_by given) outcome

  -- what the targets of these texts come to by a configuration
  abbrev pub IsTargetsOutcome : List (List ℕ) → Result Data Refusal → Type 0
  IsTargetsOutcome texts outcome = IsForGiven (all_targets texts) outcome

-- the same by the configuration of a directory under these overrides
abbrev pub AreCrateTargets : Tree → Answers → Machine → List ℕ → List Choice → List (List ℕ) → Result Data Refusal → Type 0
AreCrateTargets fs answers machine dir choices texts outcome =
    IsOverLoad fs machine dir (map override_of choices) (λ c o. IsTargetsOutcome fs answers c texts o) outcome
