-- What host artifacts have, step by step.
use Rattle.std.proofs.Common.{◌≡◌, ℕ, Bool, true, false, List, [], Result, Ok, Err, IfOk, refl, sym, ap, ◌∙◌, subst}
use Rattle.cc2_error.specs.Causes.{Refusal}
use Rattle.cc2_error.specs.Commands.{Command}
use Rattle.cc2_error.specs.declared.error.Error.{Error}
use Rattle.cc2_base.specs.ToldPrograms.{Answers}
use Rattle.cc2_base.specs.declared.machine.Machine.{Machine}
use Rattle.cc2_cargo.specs.Raw.{raw_members_at}
use Rattle.cc2_cargo_settings.specs.Values.{on_ok}
use Rattle.cc2_rustc.specs.AskedVersions.{rustc_host}
use Rattle.cc2_resolved.specs.TargetConfigs.{TargetAnswer}
use Rattle.cc2_cargo_target.specs.HostArtifacts.{AreHostArtifacts, AreHostArtifactsFrom, AreSettings, HostAnswer, IsBare, IsBareFrom, IsHost, MatchIfAny, MatchWithoutFlags, artifacts_view, finished_bare, kept_for, targets_given}
use Rattle.cc2_cargo_target.specs.Outcomes.{GivesOne}
use Rattle.cc2_cargo_target.specs.Settling.{have_cfg}
use Rattle.cc2_cargo_target.specs.Target.{RawSettings, checked_keys}
use Rattle.cc2_cargo_target.specs.declared.host_artifacts.HostArtifacts.{HostArtifacts}
use Rattle.cc2_cargo_target.proofs.Settling.{with_same}
use Rattle.cc2_cargo_target.proofs.Targets.{one_target}

module _ (rustc : Command) (answers : Answers) (host : List ℕ) (keys : List (List ℕ)) where
  abbrev Match : Result (List (List ℕ)) Refusal → Type 0
  Match matching = MatchWithoutFlags rustc answers host keys matching

  one_match : (r s : Result (List (List ℕ)) Refusal) → Match r → Match s → r ≡ s
  one_match r s = go (have_cfg keys)
    where
      go : (b : Bool) → MatchIfAny rustc answers host keys b r → MatchIfAny rustc answers host keys b s → r ≡ s
      go true is also = with_same rustc answers host keys [] r s is also
      go false is also = is ∙ sym also

module _ (settings : RawSettings) (machine : Machine) (dir : List ℕ) (rustc : Command) (answers : Answers) where
  abbrev Bare : List ℕ → Result TargetAnswer Refusal → Type 0
  Bare host target = IsBare settings machine dir rustc answers host target

  abbrev BareFrom : List ℕ → Result (List (List ℕ)) Refusal → Result TargetAnswer Refusal → Type 0
  BareFrom host keys target = IsBareFrom settings machine dir rustc answers host keys target

  abbrev Settings : Bool → List ℕ → Result TargetAnswer Refusal → Type 0
  Settings given host kept = AreSettings settings machine dir rustc answers given host kept

  module _ (given b : Bool) (same : given ≡ b) (host : List ℕ) where
    -- what the host has, where it is known whether targets are given
    of_host : (target : Result TargetAnswer Refusal) → IsHost settings machine dir rustc answers b host target
        → Settings given host (on_ok (λ t. Ok (kept_for b t)) target)
    of_host target is = subst (λ g. Settings g host (on_ok (λ t. Ok (kept_for b t)) target)) (sym same) (target, is, refl)

    pub settings_refused : (refusal : Refusal) → IsHost settings machine dir rustc answers b host (Err refusal) → Settings given host (Err refusal)
    settings_refused refusal is = of_host (Err refusal) is

    pub settings_kept : (target kept : TargetAnswer) → IsHost settings machine dir rustc answers b host (Ok target) → kept ≡ kept_for b target
        → Settings given host (Ok kept)
    settings_kept target kept is shows = subst (λ t. Settings given host (Ok t)) (sym shows) (of_host (Ok target) is)

  module _ (texts : List (List ℕ)) where
    abbrev Are : Result HostAnswer Refusal → Type 0
    Are found = AreHostArtifacts settings machine dir rustc answers texts found

    abbrev From : Result Bool Refusal → Result (List ℕ) Refusal → Result HostAnswer Refusal → Type 0
    From given host found = AreHostArtifactsFrom settings machine dir rustc answers given host found

    -- the settings of this host
    pub of_settings : (given : Bool) (host : List ℕ) (s : TargetAnswer) → targets_given (raw_members_at settings) machine texts ≡ Ok given
        → rustc_host false answers rustc ≡ Ok host → Settings given host (Ok s) → Are (Ok (record { host = host; settings = s }))
    of_settings given host s asked found is =
        subst (λ (p : Result Bool Refusal × Result (List ℕ) Refusal). From p.0 p.1 (Ok (record { host = host; settings = s })))
        (λ i. (sym asked i, sym found i)) (Ok s, is, refl)

  -- ---- there is one answer, or one refusal

  one_bare : (host : List ℕ) (a b : Result TargetAnswer Refusal) → Bare host a → Bare host b → a ≡ b
  one_bare host a b = go (checked_keys settings machine)
    where
      go : (k : Result (List (List ℕ)) Refusal) → BareFrom host k a → BareFrom host k b → a ≡ b
      go (Err refusal) is also = is ∙ sym also
      go (Ok keys) (m, matches, is) (n, matches_too, also) =
          is ∙ ap (on_ok (finished_bare settings machine dir rustc answers host)) (one_match rustc answers host keys m n matches matches_too) ∙ sym also

  one_host : (given : Bool) (host : List ℕ) (a b : Result TargetAnswer Refusal) → IsHost settings machine dir rustc answers given host a
      → IsHost settings machine dir rustc answers given host b → a ≡ b
  one_host true host a b is also = one_bare host a b is also
  one_host false host a b is also = one_target settings machine dir host rustc answers a b is also

  one_list : (given : Bool) (host : List ℕ) (a b : Result TargetAnswer Refusal) → Settings given host a → Settings given host b → a ≡ b
  one_list given host a b (t, is, at) (u, also, at_too) = at ∙ ap (on_ok (λ x. Ok (kept_for given x))) (one_host given host t u is also) ∙ sym at_too

  one_answer : (texts : List (List ℕ)) (a b : Result HostAnswer Refusal) → Are texts a → Are texts b → a ≡ b
  one_answer texts a b = go (targets_given (raw_members_at settings) machine texts) (rustc_host false answers rustc)
    where
      go : (g : Result Bool Refusal) (h : Result (List ℕ) Refusal) → From texts g h a → From texts g h b → a ≡ b
      go (Ok given) (Ok host) (s, is, at) (u, also, at_too) =
          at ∙ ap (on_ok (λ x. Ok (record { host = host; settings = x }))) (one_list given host s u is also) ∙ sym at_too
      go (Ok given) (Err refusal) is also = is ∙ sym also
      go (Err refusal) h is also = is ∙ sym also

  ok_err : (a : HostAnswer) (refusal : Refusal) → Ok a ≡ Err refusal → ⊥
  ok_err a refusal e = cc e

  pub no_refusal : (texts : List (List ℕ)) (result : Result HostArtifacts Error) → GivesOne artifacts_view result (Are texts)
      → IfOk result (λ a. (refusal : Refusal) → ¬ (Are texts (Err refusal)))
  no_refusal texts (Ok a) is = λ refusal refused. ok_err (artifacts_view a) refusal (one_answer texts (Ok (artifacts_view a)) (Err refusal) is refused)
  no_refusal texts (Err e) is = tt
