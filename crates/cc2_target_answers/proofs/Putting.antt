-- What Cargo uses for targets, put one after another.
use Rattle.std.proofs.Common.{◌≡◌, ℕ, false, List, ◌∷◌, Result, Ok, Err, subst, sym}
use Rattle.serde_json.specs.Data.{Data, Members, no_members, object}
use Rattle.serde_json.specs.Data as json
use Rattle.serde_json.specs.Written.{members_have_float}
use Rattle.cc2_base.specs.Told.{Keeps}
use Rattle.cc2_base.specs.ToldPrograms.{Answers}
use Rattle.cc2_base.specs.declared.machine.Machine.{Machine}
use Rattle.cc2_error.specs.Causes.{Refusal}
use Rattle.cc2_error.specs.Commands.{Command}
use Rattle.cc2_cargo.specs.Raw.{raw_members_at}
use Rattle.cc2_cargo_target.specs.Rustc.{rustc_command}
use Rattle.cc2_cargo_target.specs.Target.{IsTarget, RawSettings}
use Rattle.cc2_cargo_target.specs.Targets.{targets_of}
use Rattle.cc2_resolved.specs.TargetConfigs.{TargetAnswer}
use Rattle.cc2_target_answers.specs.CargoTargets.{AreByRustc, AreCargoTargets, ArePut, ArePutAll}
use Rattle.cc2_target_answers.specs.Settings.{settings_data}

module _ (settings : RawSettings) (machine : Machine) (dir : List ℕ) (rustc : Command) where
  module _ (answers : Answers) (outcome : Result Data Refusal) (left : List (List ℕ)) (triple : List ℕ) (ms : Members) where
    -- a target with settings, and those after it
    pub put_on : (ns : Members) (a : TargetAnswer) → IsTarget settings machine dir triple rustc answers (Ok a) → ns ≡ json.put triple (settings_data a) ms
        → ArePut settings machine dir rustc answers left ns outcome → ArePut settings machine dir rustc answers (triple ∷ left) ms outcome
    put_on ns a is put next = (Ok a, is, subst (λ m. ArePut settings machine dir rustc answers left m outcome) put next)

    -- a target with an error
    pub stops : (refusal : Refusal) → IsTarget settings machine dir triple rustc answers (Err refusal) → outcome ≡ Err refusal
        → ArePut settings machine dir rustc answers (triple ∷ left) ms outcome
    stops refusal is same = (Err refusal, is, same)

  module _ (before now : Answers → Type 0) (all : List (List ℕ)) where
    -- what the triples left come to after these members is what all come to
    pub record IsSoFar (left : List (List ℕ)) (ms : Members) : Type 0 where
      pub same : Keeps before now
      pub free : members_have_float ms ≡ false
      pub so_far : (answers : Answers) → before answers → (outcome : Result Data Refusal) → ArePut settings machine dir rustc answers left ms outcome
          → ArePut settings machine dir rustc answers all no_members outcome

module _ (settings : RawSettings) (machine : Machine) (dir : List ℕ) (texts : List (List ℕ)) (answers : Answers) (rustc : Command)
    (triples : List (List ℕ)) (command : rustc_command (raw_members_at settings) machine dir ≡ Ok rustc)
    (are : targets_of (raw_members_at settings) machine rustc answers texts ≡ Ok triples) where
  -- what the triples that are asked for come to
  pub all_asked_for : (outcome : Result Data Refusal) → ArePut settings machine dir rustc answers triples no_members outcome
      → AreCargoTargets settings machine dir texts answers outcome
  all_asked_for outcome put =
      subst (λ (r : Result Command Refusal). AreByRustc settings machine dir texts answers r outcome) (sym command)
      (subst (λ (ts : Result (List (List ℕ)) Refusal). ArePutAll settings machine dir rustc answers ts outcome) (sym are) put)
