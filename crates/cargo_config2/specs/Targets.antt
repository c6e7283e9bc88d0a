-- The settings of targets: what they are made of, and what is kept of them.
-- Cargo Reference, Configuration, `[target]`.
use Rattle.std.specs.Prelude.{◌≡◌, ℕ, List, Option, Some, option_map, string_bytes, String}
use Rattle.std.specs.BTreeMap.{BTreeMap, get_by_text}
use Rattle.std.specs.declared.alloc.Global.{Global}
use Rattle.cc2_error.specs.Causes.{Refusal}
use Rattle.cc2_error.specs.Commands.{Command}
use Rattle.cc2_base.specs.ToldPrograms.{Answers}
use Rattle.cc2_env.specs.Options.{variables_of}
use Rattle.cc2_resolved.specs.Targets.{Target, target_in}
use Rattle.cc2_resolved.specs.Answers.{flags_answer}
use Rattle.cc2_resolved_tables.specs.declared.build.BuildConfig.{BuildConfig}
use Rattle.cc2_target.specs.Asked.{IsAnswer, IsCause}
use Rattle.cc2_target.specs.Settings.{Given}
use Rattle.cc2_resolved.specs.TargetConfigs.{TargetAnswer, shown}
use Rattle.cc2_resolved.specs.declared.target_config.TargetConfig.{TargetConfig}
use Rattle.cc2_rustc.specs.CfgSets.{set_said}
use Rattle.cargo_config2.specs.declared.config.Loaded.{Loaded}

-- what the settings are made of: what stays as it was loaded, and the flags of `build` as they are now
abbrev pub given_by : Loaded → BuildConfig → Given
given_by l build = record {
  tables = l.target;
  vars = variables_of l.context;
  directory = string_bytes l.context.current_dir;
  build_flags = option_map flags_answer build.rustflags;
  build_doc_flags = option_map flags_answer build.rustdocflags;
  flags_overridden = l.flags_overridden;
  doc_flags_overridden = l.doc_flags_overridden;
}

module _ (g : Given) (rustc : Command) (answers : Answers) where
  -- these are the settings of the target, by what rustc prints for it
  abbrev pub IsTarget : Target → TargetAnswer → Type 0
  IsTarget t a = IsAnswer g t.triple (set_said rustc answers t) a

  -- why there are none
  abbrev pub IsTargetCause : Target → Refusal → Type 0
  IsTargetCause t refusal = IsCause g t.triple (set_said rustc answers t) refusal

  -- these are the settings, and there is no cause
  abbrev pub IsTargetAlone : Target → TargetAnswer → Type 0
  IsTargetAlone t a = IsTarget t a × ((refusal : Refusal) → ¬ (IsTargetCause t refusal))

abbrev pub Settings : Type 0
Settings = BTreeMap (String Global) TargetConfig

abbrev pub kept_settings : Settings → List ℕ → Option TargetAnswer
kept_settings settings name = option_map shown (get_by_text settings name)

-- what is kept for a target's text are the settings of that target
abbrev pub AgreesOnTargets : Given → Command → Answers → Settings → Type 0
AgreesOnTargets g rustc answers settings = (name : List ℕ) (a : TargetAnswer) → kept_settings settings name ≡ Some a
    → IsTargetAlone g rustc answers (target_in name) a
