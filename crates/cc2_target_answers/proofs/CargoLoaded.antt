-- What a question over what is loaded by Cargo's own rules comes to.
use Rattle.std.proofs.Common.{◌≡◌, ◌⊎◌, ℕ, List, Result, Ok, Err, refl, sym, ap, inl, inr}
use Rattle.std.specs.Result.{result_map_both}
use Rattle.cc2_base.specs.Told.{Tree}
use Rattle.cc2_base.specs.declared.machine.Machine.{Machine}
use Rattle.cc2_cargo.specs.RealPaths.{RealPathMap}
use Rattle.cc2_error.specs.Causes.{Refusal, refusal_of}
use Rattle.cc2_error.specs.Outcomes.{Gives, IsWantOfMemory}
use Rattle.cc2_error.specs.declared.error.Error.{Error}
use Rattle.cc2_cargo_target.specs.Target.{RawSettings}
use Rattle.cc2_target_answers.specs.CargoLoads.{IsCause, IsMap, IsOverSettings, by_settings, unloaded, without_memory}
use Rattle.cc2_target_answers.specs.Outcomes.{Comes}

-- a result that gives what is stated comes to it
pub gives_comes : {T A : Type 0} (view : T → A) (stated : Result A Refusal) (result : Result T Error) → Gives view result stated
    → Comes view (λ outcome. outcome ≡ stated) result
gives_comes view stated (Ok value) is = sym is
gives_comes view stated (Err e) (inl lacks) = inl lacks
gives_comes view stated (Err e) (inr is) = inr (sym is)

-- what follows from what a result comes to
pub comes_on : {T A : Type 0} (view : T → A) (Is Next : Result A Refusal → Type 0) → ((outcome : Result A Refusal) → Is outcome → Next outcome)
    → (result : Result T Error) → Comes view Is result → Comes view Next result
comes_on view Is Next on (Ok value) is = on (Ok (view value)) is
comes_on view Is Next on (Err e) (inl lacks) = inl lacks
comes_on view Is Next on (Err e) (inr is) = inr (on (Err (refusal_of e)) is)

module _ {A : Type 0} (fs : Tree) (reals : RealPathMap) (machine : Machine) (dir : List ℕ) (overrides : List (List ℕ)) (Is : RawSettings → Result A Refusal → Type 0) where
  abbrev IsOver : Result A Refusal → Type 0
  IsOver outcome = IsOverSettings fs reals machine dir overrides Is outcome

  -- what a question comes to by what is loaded
  pub by_loaded : {T : Type 0} (view : T → A) (settings : RawSettings) (result : Result T Error) → IsMap fs reals machine dir overrides settings
      → ((r : Refusal) → ¬ (IsCause fs reals machine dir overrides r)) → Comes view (Is settings) result → IsOver (result_map_both view refusal_of result)
  by_loaded view settings (Ok value) is none come = by_settings settings is none come
  by_loaded view settings (Err e) is none (inl lacks) = without_memory (ap Err lacks)
  by_loaded view settings (Err e) is none (inr come) = by_settings settings is none come

  -- the files aren't loaded
  pub by_unloaded : (e : Error) → IsWantOfMemory e ⊎ IsCause fs reals machine dir overrides (refusal_of e) → IsOver (Err (refusal_of e))
  by_unloaded e (inl lacks) = without_memory (ap Err lacks)
  by_unloaded e (inr cause) = unloaded (refusal_of e) cause refl
