-- A load under variables, and then its overrides.
use Rattle.std.proofs.Common.{◌≡◌, ℕ, List, [], ◌∷◌, Option, Result, Ok, Err, refl, subst, inl, inr}
use Rattle.cc2_error.specs.declared.error.Error.{Error}
use Rattle.cc2_error.specs.Causes.{Refusal, refusal_of}
use Rattle.cc2_error.specs.Outcomes.{Answered}
use Rattle.cc2_base.specs.Told.{Tree}
use Rattle.cc2_value.specs.Cells.{Cell, KeyPath}
use Rattle.cc2_value.specs.JoinedLaws.{joined_alone}
use Rattle.cc2_env.specs.CommandLine.{Override}
use Rattle.cc2_env.specs.Kept.{Variables}
use Rattle.cc2_de.specs.declared.config.Config.{Config}
use Rattle.cc2_de.specs.Config.{config_at}
use Rattle.cc2_de.specs.LoadOver.{IsLoadOver, IsLoadOverCause}
use Rattle.cc2_de.specs.LoadUnder.{IsLoadUnder, IsLoadUnderCause}
use Rattle.cc2_de.specs.Overrides.{IsOver, IsOverCause, IsUnmergedOver}
use Rattle.cc2_de.proofs.LoadsUnder.{one_answer, one_under}
use Rattle.cc2_de.proofs.Over.{stays}

module _ (fs : Tree) (cwd : List ℕ) (home : Result (Option (List ℕ)) Refusal) (vars : Variables) where
  -- without overrides, what they make of a map is that map
  over_none : (below m : KeyPath → Option Cell) → IsOver fs cwd [] below m → (p : KeyPath) → below p ≡ m p
  over_none below m h p = one_answer _ (below p) (m p) (joined_alone (below p)) (h.1 p)

  -- both cases of a load are one rule
  pub over_alike : (os : List Override) (m : KeyPath → Option Cell)
      → (below : KeyPath → Option Cell) × IsLoadUnder fs cwd home vars below × IsOver fs cwd os below m → IsLoadOver fs cwd home vars os m
  over_alike [] m (below, under, over) =
      subst (λ (look : KeyPath → Option Cell). IsLoadUnder fs cwd home vars look) (λ i p. over_none below m over p i) under
  over_alike (o ∷ os) m h = h

  -- the load has one map
  pub one_over : (os : List Override) (m n : KeyPath → Option Cell)
      → IsLoadOver fs cwd home vars os m → IsLoadOver fs cwd home vars os n → (p : KeyPath) → m p ≡ n p
  one_over [] m n h k p = one_under fs cwd home vars m n h k p
  one_over (o ∷ os) m n (f, under, over) (g, other, again) p =
      one_answer _ (m p) (n p) (over.1 p)
      ((subst (λ (look : KeyPath → Option Cell). IsOver fs cwd (o ∷ os) look n) (λ i q. one_under fs cwd home vars g f other under q i) again).1 p)

  -- where the load below is refused
  pub under_cause : (os : List Override) (refusal : Refusal) → IsLoadUnderCause fs cwd home vars refusal → IsLoadOverCause fs cwd home vars os refusal
  under_cause [] refusal h = h
  under_cause (o ∷ os) refusal h = inl h

  module _ (ranked : Config) (under : IsLoadUnder fs cwd home vars (config_at ranked)) where
    no_cause : (o : Override) (os : List Override) → ((refusal : Refusal) → ¬ (IsLoadUnderCause fs cwd home vars refusal))
        → ((refusal : Refusal) → ¬ (IsOverCause fs cwd (o ∷ os) (config_at ranked) refusal)) → (refusal : Refusal) → ¬ (IsLoadOverCause fs cwd home vars (o ∷ os) refusal)
    no_cause o os free none refusal (inl h) = free refusal h
    no_cause o os free none refusal (inr (inl h)) = none refusal (inl h)
    no_cause o os free none refusal (inr (inr (below, other, unmerged))) =
        none refusal (inr (subst (λ (look : KeyPath → Option Cell). IsUnmergedOver fs cwd (o ∷ os) look refusal)
        (λ i p. one_under fs cwd home vars below (config_at ranked) other under p i) unmerged))

    -- what the overrides make of the load below, or why they make nothing
    pub laid : (os : List Override) (result : Result Config Error) → ((refusal : Refusal) → ¬ (IsLoadUnderCause fs cwd home vars refusal))
        → Answered config_at result (IsOver fs cwd os (config_at ranked)) (IsOverCause fs cwd os (config_at ranked))
        → Answered config_at result (IsLoadOver fs cwd home vars os) (IsLoadOverCause fs cwd home vars os)
    laid [] (Ok config) free (over, none) = (over_alike [] (config_at config) (config_at ranked, under, over), free)
    laid [] (Err e) free (inl wants) = inl wants
    laid [] (Err e) free (inr cause) = absurd ((stays fs cwd [] ranked refl).1 (refusal_of e) cause)
    laid (o ∷ os) (Ok config) free (over, none) = ((config_at ranked, under, over), no_cause o os free none)
    laid (o ∷ os) (Err e) free (inl wants) = inl wants
    laid (o ∷ os) (Err e) free (inr (inl h)) = inr (inr (inl h))
    laid (o ∷ os) (Err e) free (inr (inr h)) = inr (inr (inr (config_at ranked, under, h)))
