-- What a query over a load comes to.
use Rattle.std.proofs.Common.{◌≡◌, ◌⊎◌, ℕ, List, Result, Ok, Err, ap, inl, inr, refl}
use Rattle.std.specs.Result.{result_map_both}
use Rattle.cc2_error.specs.Causes.{Refusal, memory, plain, refusal_of}
use Rattle.cc2_error.specs.declared.error.Error.{Error}
use Rattle.cc2_base.specs.Told.{Tree}
use Rattle.cc2_base.specs.declared.machine.Machine.{Machine}
use Rattle.cc2_env.specs.CommandLine.{Override}
use Rattle.cargo_config2.specs.declared.config.Config.{Config}
use Rattle.cc2_answers.specs.Choices.{IsConfigUnder, IsConfigUnderCause, IsOverLoad}
use Rattle.cc2_target_answers.specs.Outcomes.{Comes}

module _ {A : Type 0} (Is : Config → Result A Refusal → Type 0) (fs : Tree) (machine : Machine) (dir : List ℕ) (os : List Override) where
  -- what a query comes to by a configuration that the load gives
  pub by_config : {T : Type 0} (view : T → A) (c : Config) → IsConfigUnder fs machine dir os c
      → ((refusal : Refusal) → ¬ (IsConfigUnderCause fs machine dir os refusal))
      → (found : Result T Error) → Comes view (Is c) found → IsOverLoad fs machine dir os Is (result_map_both view refusal_of found)
  by_config view c is free (Ok value) h = inl (c, is, free, h)
  by_config view c is free (Err e) (inl wants) = inr (inr (ap Err wants))
  by_config view c is free (Err e) (inr h) = inl (c, is, free, h)

  -- a refusal of the load
  pub by_refusal : (refusal : Refusal) → (refusal ≡ plain memory) ⊎ IsConfigUnderCause fs machine dir os refusal
      → IsOverLoad fs machine dir os Is (Err refusal)
  by_refusal refusal (inl none) = inr (inr (ap Err none))
  by_refusal refusal (inr cause) = inr (inl (refusal, cause, refl))
