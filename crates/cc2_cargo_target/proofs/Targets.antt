-- What a target has, once its keys and flags are settled.
use Rattle.std.proofs.Common.{◌≡◌, ℕ, List, [], Result, Ok, Err, IfOk, refl, sym, ap, ◌∙◌, subst, inl, inr}
use Rattle.cc2_error.specs.Causes.{Refusal, refusal_of}
use Rattle.cc2_error.specs.Commands.{Command}
use Rattle.cc2_error.specs.Outcomes.{Gives}
use Rattle.cc2_error.specs.declared.error.Error.{Error}
use Rattle.cc2_base.specs.ToldPrograms.{Answers}
use Rattle.cc2_base.specs.declared.machine.Machine.{Machine}
use Rattle.cc2_cargo.specs.Raw.{raw_members_at}
use Rattle.cc2_cargo_target.specs.Flags.{flags_of}
use Rattle.cc2_cargo_target.specs.Outcomes.{GivesOne}
use Rattle.cc2_cargo_target.specs.Settling.{Settled, Settles}
use Rattle.cc2_resolved.specs.TargetConfigs.{TargetAnswer, shown}
use Rattle.cc2_cargo_target.specs.Target.{IsTarget, IsTargetFrom, Prepared, RawSettings, checked_keys, finished, prepared, with_plain}
use Rattle.cc2_cargo_settings.specs.Values.{on_ok}
use Rattle.cc2_cargo_target.proofs.Settling.{one_settled}
use Rattle.cc2_resolved.specs.declared.target_config.TargetConfig.{TargetConfig}
use Rattle.cc2_cargo_target.specs.declared.tool.Tool.TheVariants.{Rustc}

ok_err : (target : TargetAnswer) (refusal : Refusal) → Ok target ≡ Err refusal → ⊥
ok_err target refusal e = cc e

module _ (settings : RawSettings) (machine : Machine) (dir triple : List ℕ) (rustc : Command) (answers : Answers) where
  abbrev Is : Result TargetAnswer Refusal → Type 0
  Is target = IsTarget settings machine dir triple rustc answers target

  abbrev From : Result Prepared Refusal → Result TargetAnswer Refusal → Type 0
  From p target = IsTargetFrom settings machine dir triple rustc answers p target

  -- a key, or the flags without keys, can't be read
  pub unread_keys : (refusal : Refusal) → checked_keys settings machine ≡ Err refusal → Is (Err refusal)
  unread_keys refusal is =
      subst (λ p. From p (Err refusal)) (sym (ap (λ k. with_plain k (flags_of (raw_members_at settings) machine Rustc triple [])) is)) refl

  pub unread_flags : (keys : List (List ℕ)) (refusal : Refusal) → checked_keys settings machine ≡ Ok keys
      → flags_of (raw_members_at settings) machine Rustc triple [] ≡ Err refusal → Is (Err refusal)
  unread_flags keys refusal checked is = subst (λ p. From p (Err refusal)) (sym (λ i. with_plain (checked i) (is i))) refl

  module _ (keys plain : List (List ℕ)) (checked : checked_keys settings machine ≡ Ok keys)
      (read : flags_of (raw_members_at settings) machine Rustc triple [] ≡ Ok plain) where
    from : (target : Result TargetAnswer Refusal) → From (Ok (record { keys = keys; plain = plain })) target → Is target
    from target is = subst (λ p. From p target) (sym (λ i. with_plain (checked i) (read i))) is

    pub unsettled : (refusal : Refusal) → Settles (raw_members_at settings) machine rustc answers triple keys plain (Err refusal) → Is (Err refusal)
    unsettled refusal is = from (Err refusal) (Err refusal, is, refl)

    pub of_settled : (result : Result TargetConfig Error) (s : Settled)
        → Settles (raw_members_at settings) machine rustc answers triple keys plain (Ok s)
        → Gives shown result (finished settings machine dir triple s) → GivesOne shown result Is
    of_settled (Ok target) s settles is = from (Ok (shown target)) (Ok s, settles, sym is)
    of_settled (Err e) s settles (inl memory) = inl memory
    of_settled (Err e) s settles (inr is) = inr (from (Err (refusal_of e)) (Ok s, settles, sym is))

  -- a target has one answer, or one refusal
  pub one_target : (a b : Result TargetAnswer Refusal) → Is a → Is b → a ≡ b
  one_target a b = go (prepared settings machine dir triple)
    where
      go : (p : Result Prepared Refusal) → From p a → From p b → a ≡ b
      go (Err refusal) is also = is ∙ sym also
      go (Ok p) (s, settles, is) (t, settles_too, also) =
          is ∙ ap (on_ok (finished settings machine dir triple)) (one_settled (raw_members_at settings) machine rustc answers triple p.keys p.plain s t settles settles_too)
          ∙ sym also

  pub no_refusal : (result : Result TargetConfig Error) → GivesOne shown result Is → IfOk result (λ target. (refusal : Refusal) → ¬ (Is (Err refusal)))
  no_refusal (Ok target) is = λ refusal refused. ok_err (shown target) refusal (one_target (Ok (shown target)) (Err refusal) is refused)
  no_refusal (Err e) is = tt
