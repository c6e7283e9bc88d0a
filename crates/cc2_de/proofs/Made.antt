-- What variables and overrides make of nothing.
use Rattle.std.proofs.Common.{◌≡◌, ◌⊎◌, ℕ, List, None, Result, Ok, Err, IfOk, IfErr, inl, inr}
use Rattle.cc2_error.specs.Causes.{refusal_of}
use Rattle.cc2_error.specs.Outcomes.{Answered, IsWantOfMemory}
use Rattle.cc2_error.specs.declared.error.Error.{Error}
use Rattle.cc2_base.specs.Told.{Tree}
use Rattle.cc2_base.specs.declared.machine.Machine.{Machine}
use Rattle.cc2_value.specs.Cells.{KeyPath}
use Rattle.cc2_env.specs.Kept.{Variables}
use Rattle.cc2_env.specs.Options.{chosen_overrides}
use Rattle.cc2_env.specs.declared.options.ResolveOptions.{ResolveOptions}
use Rattle.cc2_env.specs.Ranked.{IsRanked, IsRankCause}
use Rattle.cc2_de.specs.Config.{config_at}
use Rattle.cc2_de.specs.ConfigRanks.{config_rank}
use Rattle.cc2_de.specs.Overrides.{IsOver, IsOverCause}
use Rattle.cc2_de.specs.declared.config.Config.{Config}
use Rattle.cc2_de.specs.OverridesAlone.{IsOptionCause, IsSetOver}
use Rattle.cc2_de.specs.VariablesAlone.{AreVariables, IsSetBy, IsVariableCause}

module _ (machine : Machine) (vars : Variables) (empty : Config) (are : AreVariables machine vars) (none : (p : KeyPath) → config_at empty p ≡ None) where
  -- it is what they set by themselves
  pub set_by : (result : Result Config Error) → IfOk result (λ c. IsRanked config_at config_rank vars empty c) → IfOk result (λ c. IsSetBy machine (config_at c))
  set_by (Ok c) h = record { vars = vars; nothing = config_at empty; are = are; none = none; cells = h.0; sound = h.1 }
  set_by (Err e) h = tt

  -- or one of them is refused
  pub refused_for : (result : Result Config Error) → IfErr result (λ e. IsRankCause config_at config_rank vars empty e)
      → IfErr result (λ e. IsWantOfMemory e ⊎ IsVariableCause machine (refusal_of e))
  refused_for (Ok c) h = tt
  refused_for (Err e) (inl wants) = inl wants
  refused_for (Err e) (inr h) =
      inr (inr (record { vars = vars; nothing = config_at empty; are = are; none = none; place = h.0; refused = h.1 }))

module _ (fs : Tree) (machine : Machine) (dir : List ℕ) (options : ResolveOptions) (empty : Config) (none : (p : KeyPath) → config_at empty p ≡ None) where
  abbrev IsOverEmpty : Result Config Error → Type 0
  IsOverEmpty result =
      Answered config_at result (IsOver fs dir (chosen_overrides options) (config_at empty)) (IsOverCause fs dir (chosen_overrides options) (config_at empty))

  -- it is what the overrides set by themselves
  pub set_over : (result : Result Config Error) → IsOverEmpty result → IfOk result (λ c. IsSetOver fs dir (chosen_overrides options) (config_at c))
  set_over (Ok c) h = record { nothing = config_at empty; none = none; over = h.0 }
  set_over (Err e) h = tt

  -- or they are refused
  pub refused_over : (result : Result Config Error) → IsOverEmpty result
      → IfErr result (λ e. IsWantOfMemory e ⊎ IsOptionCause fs machine dir options (refusal_of e))
  refused_over (Ok c) h = tt
  refused_over (Err e) (inl wants) = inl wants
  refused_over (Err e) (inr h) = inr (inr (record { nothing = config_at empty; none = none; cause = h }))
