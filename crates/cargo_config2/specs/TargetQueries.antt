-- What a query for a target leaves, how many programs it runs, and what it answers.
use Rattle.std.specs.Prelude.{◌≡◌, ◌≤◌, ◌+◌, ℕ, List, Option, None, IsSome}
use Rattle.std.specs.BTreeMap.{get_by_text}
use Rattle.cc2_error.specs.Causes.{Refusal}
use Rattle.cc2_base.specs.Told.{Tree}
use Rattle.cc2_base.specs.ToldPrograms.{Answers}
use Rattle.cc2_rustc.specs.Asking.{entries_by_text, SomeKeyAsks}
use Rattle.cc2_resolved.specs.Targets.{Target, command_text}
use Rattle.cc2_resolved.specs.TargetConfigs.{TargetAnswer}
use Rattle.cargo_config2.specs.Config.{tables_of}
use Rattle.cc2_rustc.specs.Kept.{WhereBothTold}
use Rattle.cargo_config2.specs.Kept.{Agrees, KeepsFinds, given_of}
use Rattle.cargo_config2.specs.RustcKept.{rustc_command_of}
use Rattle.cargo_config2.specs.Targets.{IsTarget, IsTargetCause, kept_settings}
use Rattle.cargo_config2.specs.declared.config.Config.{Config}

-- some key of `[target]` asks what rustc prints
abbrev pub SomeKeyOf : Config → Type 0
SomeKeyOf c = SomeKeyAsks (entries_by_text c.loaded.target)

-- its settings are kept
abbrev pub HasTarget : Config → Target → Type 0
HasTarget c t = IsSome (get_by_text c.target (command_text t))

-- what its kept settings show
abbrev pub kept_of : Config → Target → Option TargetAnswer
kept_of c t = kept_settings c.target (command_text t)

-- no settings of a target were stored, or lost
abbrev pub IsNothingStored : Config → Config → Type 0
IsNothingStored was c = (name : List ℕ) → get_by_text c.target name ≡ get_by_text was.target name

-- what rustc prints for it is kept
abbrev pub HasSet : Config → Target → Type 0
HasSet c t = IsSome (get_by_text c.kept.cfg_sets (command_text t))

-- What a query for a target leaves, whatever it answers: what agreed agrees, what was kept is kept, and all
-- else is as it was; one program is run at most, and none where no key asks or what rustc prints is kept.
pub record Leaves (files : Tree → Type 0) (programs : Answers → Type 0) (t : Target) (was c : Config) (before after : ℕ) : Type 0 where
  pub agrees : WhereBothTold files programs (λ fs answers. Agrees fs answers was → Agrees fs answers c)
  pub keeps : KeepsFinds was c
  pub tables : tables_of c ≡ tables_of was
  pub loaded : c.loaded ≡ was.loaded
  pub few : after ≤ before + 1
  pub none_unasked : ¬ (SomeKeyOf was) → after ≡ before
  pub none_listed : HasSet was t → after ≡ before

-- What an answered query found is kept: the settings, and, where they weren't and some key asks, what rustc
-- prints.
pub record KeepsTarget (t : Target) (was c : Config) : Type 0 where
  pub settings : HasTarget c t
  pub used : get_by_text was.target (command_text t) ≡ None → SomeKeyOf was → HasSet c t

module _ (fs : Tree) (answers : Answers) (c : Config) (t : Target) where
  -- these are the settings of the target
  abbrev pub IsQueryAnswer : TargetAnswer → Type 0
  IsQueryAnswer a = IsTarget (given_of c) (rustc_command_of fs c) answers t a

  -- this is one of them
  abbrev pub IsSetting : {A : Type 0} → (TargetAnswer → A) → A → Type 0
  IsSetting setting value = (a : TargetAnswer) × IsQueryAnswer a × (value ≡ setting a)

  -- why they are refused
  abbrev pub IsQueryCause : Refusal → Type 0
  IsQueryCause refusal = IsTargetCause (given_of c) (rustc_command_of fs c) answers t refusal
