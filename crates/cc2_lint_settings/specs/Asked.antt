-- Which keys hold for a target, by the configuration of a directory and what rustc prints.
-- Cargo Reference, Configuration, `[target]`.
use Rattle.std.specs.Prelude.{◌≡◌, ◌⊎◌, ℕ, List, [], map, Option, Some, None, Ok, Err}
use Rattle.toml.specs.Data.{Members}
use Rattle.cc2_error.specs.Causes.{Refusal}
use Rattle.cc2_base.specs.Told.{Tree}
use Rattle.cc2_base.specs.ToldPrograms.{Answers}
use Rattle.cc2_base.specs.declared.machine.Machine.{Machine}
use Rattle.cc2_cfg.specs.Meaning.{Atom}
use Rattle.cc2_rustc.specs.Asking.{TrueValues}
use Rattle.cc2_resolved.specs.Targets.{Target}
use Rattle.cc2_rustc.specs.CfgSets.{set_said}
use Rattle.cargo_config2.specs.Loads.{IsConfig, IsConfigCause, nothing_chosen}
use Rattle.cargo_config2.specs.RustcKept.{rustc_command_of}
use Rattle.cargo_config2.specs.declared.config.Config.{Config}
use Rattle.cc2_lint_settings.specs.Givers.{open_givers}
use Rattle.cc2_lint_settings.specs.Rivals.{Rival, rivals_of}
use Rattle.cc2_lint_settings.specs.declared.rival_setting.Setting.TheVariants.{Linker, Runner}

-- each key, with itself as what is at it
abbrev pub paired : List (List ℕ) → List (List ℕ × List ℕ)
paired keys = map (λ k. (k, k)) keys

-- those of the keys that are true by what rustc prints, in their order; none where that isn't known
abbrev pub AreTrueBy : Option (List Atom) → List (List ℕ) → List (List ℕ) → Type 0
AreTrueBy None keys held = held ≡ []
AreTrueBy (Some atoms) keys held = TrueValues atoms (paired keys) held

module _ (fs : Tree) (answers : Answers) (machine : Machine) (dir : List ℕ) (t : Target) where
  -- what rustc prints for the target, by the directory's configuration; none where the load of that is refused
  abbrev pub IsSetOf : Option (List Atom) → Type 0
  IsSetOf None = (refusal : Refusal) × IsConfigCause fs machine dir nothing_chosen refusal
  IsSetOf (Some atoms) =
      (c : Config) × IsConfig fs machine dir nothing_chosen c × (set_said (rustc_command_of fs c) answers t ≡ Ok atoms)

  -- why rustc doesn't report it
  abbrev pub IsUntold : Refusal → Type 0
  IsUntold refusal =
      (c : Config) × IsConfig fs machine dir nothing_chosen c × (set_said (rustc_command_of fs c) answers t ≡ Err refusal)

  -- these of the keys hold for the target; where there is no key nothing is asked
  abbrev pub AreHeld : List (List ℕ) → List (List ℕ) → Type 0
  AreHeld keys held =
      ((keys ≡ []) × (held ≡ [])) ⊎ ((set : Option (List Atom)) × IsSetOf set × AreTrueBy set keys held)

  -- of each of the files the keys that hold for the target beside another and give a linker both, or a runner
  abbrev pub AreRivals : List Members → List (List Rival) → Type 0
  AreRivals files found =
      (linkers : List (List ℕ)) × (runners : List (List ℕ))
      × AreHeld (open_givers Linker t.triple machine files) linkers
      × AreHeld (open_givers Runner t.triple machine files) runners
      × (found ≡ map (rivals_of linkers runners) files)
