-- What `target --build-scripts` comes to.
use Rattle.std.proofs.Common.{◌≡◌, ◌⊎◌, ℕ, true, List, Result, Ok, Err, inl, inr, refl, sym, subst}
use Rattle.serde_json.specs.Data.{Data}
use Rattle.cc2_base.specs.ToldPrograms.{Answers}
use Rattle.cc2_base.specs.declared.machine.Machine.{Machine}
use Rattle.cc2_error.specs.Causes.{Refusal, refusal_of}
use Rattle.cc2_error.specs.Commands.{Command}
use Rattle.cc2_error.specs.Outcomes.{IsRefusal, IsWantOfMemory}
use Rattle.cc2_error.specs.declared.error.Error.{Error}
use Rattle.cc2_cargo.specs.Raw.{raw_members_at}
use Rattle.cc2_cargo_target.specs.HostArtifacts.{AreHostArtifacts, HostAnswer}
use Rattle.cc2_cargo_target.specs.Rustc.{rustc_command}
use Rattle.cc2_cargo_target.specs.Target.{RawSettings}
use Rattle.cc2_target_answers.specs.CargoTargets.{AreAsked, IsArtifactsByRustc, artifacts_object}

module _ (settings : RawSettings) (machine : Machine) (dir : List ℕ) (texts : List (List ℕ)) (answers : Answers) where
  by_command : (rustc : Result Command Refusal) → rustc_command (raw_members_at settings) machine dir ≡ rustc → (outcome : Result Data Refusal)
      → IsArtifactsByRustc settings machine dir texts answers rustc outcome → AreAsked settings machine dir texts answers true outcome
  by_command rustc is outcome holds =
      subst (λ (r : Result Command Refusal). IsArtifactsByRustc settings machine dir texts answers r outcome) (sym is) holds

  -- there is no command for rustc
  pub no_rustc : (e : Error) → IsRefusal (rustc_command (raw_members_at settings) machine dir) e
      → IsWantOfMemory e ⊎ AreAsked settings machine dir texts answers true (Err (refusal_of e))
  no_rustc e (inl lacks) = inl lacks
  no_rustc e (inr is) = inr (by_command (Err (refusal_of e)) is (Err (refusal_of e)) refl)

  module _ (rustc : Command) (is : rustc_command (raw_members_at settings) machine dir ≡ Ok rustc) where
    -- the host has no settings for them
    pub no_artifacts : (e : Error) → IsWantOfMemory e ⊎ AreHostArtifacts settings machine dir rustc answers texts (Err (refusal_of e))
        → IsWantOfMemory e ⊎ AreAsked settings machine dir texts answers true (Err (refusal_of e))
    no_artifacts e (inl lacks) = inl lacks
    no_artifacts e (inr found) = inr (by_command (Ok rustc) is (Err (refusal_of e)) (Err (refusal_of e), found, refl))

    -- an object of the host
    pub has_artifacts : (a : HostAnswer) (d : Data) → AreHostArtifacts settings machine dir rustc answers texts (Ok a) → d ≡ artifacts_object a
        → AreAsked settings machine dir texts answers true (Ok d)
    has_artifacts a d found shows =
        subst (λ (x : Data). AreAsked settings machine dir texts answers true (Ok x)) (sym shows)
        (by_command (Ok rustc) is (Ok (artifacts_object a)) (Ok a, found, refl))
