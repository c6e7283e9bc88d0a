-- What an answer shows of several items.
use Rattle.std.proofs.Common.{◌≡◌, ◌⊎◌, ℕ, List, Option, Some, Result, Ok, Err, Vec, Global, sym, ap, subst, ◌∙◌, inl, inr}
use Rattle.cc2_error.specs.Causes.{Refusal, memory, plain}
use Rattle.cc2_error.specs.declared.error.Error.{Error}
use Rattle.cc2_base.specs.Told.{Tree}
use Rattle.cc2_base.specs.ToldPrograms.{Answers}
use Rattle.cc2_base.specs.declared.machine.Machine.{Machine}
use Rattle.cc2_env.specs.CommandLine.{Override}
use Rattle.cargo_config2.specs.declared.config.Config.{Config}
use Rattle.cc2_cli.specs.Answers.{answer_text, Refuses, Shows}
use Rattle.cc2_cli.specs.declared.answer.Answer.{Answer}
use Rattle.cc2_answers.specs.Choices.{IsConfigUnder, IsConfigUnderCause, overrides_by}
use Rattle.cc2_answers.proofs.ShownHost.{agrees_whole}
use Rattle.cc2_answers.specs.Items.{AsksUnder, Item, items_of, Several}
use Rattle.cc2_answers.specs.Left.{IsReady}
use Rattle.cc2_answers.specs.Outcomes.{AreOutcome, ComesTo}
use Rattle.cc2_answers.specs.SeveralRuns.{as_it_is, IsSeveralOutcome, outcome_of, PrintsItems, PrintsSeveral, SeveralGives, WordsGive}

-- words ask one thing
one_asked : (asked : Option Several) (a b : Several) → asked ≡ Some a → asked ≡ Some b → a ≡ b
one_asked asked a b is other = cc

module _ (fs : Tree) (answers : Answers) (machine : Machine) (dir : List ℕ) (os : List Override) where
  -- a loaded configuration keeps nothing yet, and nothing was chosen but overrides
  pub ready : (config : Config) → IsConfigUnder fs machine dir os config → IsReady fs answers config
  ready config h = record {
    agrees = agrees_whole fs answers machine dir os config h;
    unchosen = h.2.context.rustc ∙ h.1.rustc;
  }

  module _ (items : List Item) (config : Config) (is : IsConfigUnder fs machine dir os config)
      (free : (refusal : Refusal) → ¬ (IsConfigUnderCause fs machine dir os refusal)) where
    -- what items come to by a configuration that the load gives
    by_config : (lines : Result (Vec ℕ Global) Error) → ComesTo (AreOutcome fs answers config items) lines
        → IsSeveralOutcome fs answers machine dir os items (outcome_of lines)
    by_config (Ok text) h = inl (config, is, free, h)
    by_config (Err e) (inl wants) = inr (inr (ap Err wants))
    by_config (Err e) (inr h) = inl (config, is, free, h)

    pub prints_several : (lines : Result (Vec ℕ Global) Error) (answer : Answer) → ComesTo (AreOutcome fs answers config items) lines
        → Shows as_it_is (outcome_of lines) answer → PrintsSeveral fs answers machine dir os items (answer_text answer) answer.status
    prints_several lines answer h (stated, inl same, text, status) =
        (stated, subst (λ (o : Result (List ℕ) Refusal). IsSeveralOutcome fs answers machine dir os items o) (sym same) (by_config lines h), text, status)
    prints_several lines answer h (stated, inr wants, text, status) = (stated, inr (inr wants), text, status)

  -- so is a refusal of the load
  pub prints_no_load : (items : List Item) (refusal : Refusal) (answer : Answer)
      → (refusal ≡ plain memory) ⊎ IsConfigUnderCause fs machine dir os refusal
      → Refuses refusal answer → PrintsSeveral fs answers machine dir os items (answer_text answer) answer.status
  prints_no_load items refusal answer (inl none) (stated, inl same, text, status) =
      (Err stated, inr (inr (ap Err (same ∙ none))), text, status)
  prints_no_load items refusal answer (inr cause) (stated, inl same, text, status) =
      (Err stated, inr (inl (refusal, cause, ap Err same)), text, status)
  prints_no_load items refusal answer h (stated, inr wants, text, status) = (Err stated, inr (inr (ap Err wants)), text, status)

-- what is printed of the items of words is what the words give
pub words_give : (fs : Tree) (answers : Answers) (machine : Machine) (dir : List ℕ) (words pairs : List (List ℕ)) (text : List ℕ) (status : ℕ)
    → AsksUnder words pairs → PrintsSeveral fs answers machine dir (overrides_by pairs) (items_of words) text status
    → WordsGive fs answers machine dir words text status
words_give fs answers machine dir words pairs text status asks prints asked is =
    subst (λ (s : Several). SeveralGives fs answers machine dir s text status) (one_asked _ _ asked asks is) prints

module _ (fs : Tree) (answers : Answers) (config : Config) (items : List Item) where
  come_to : (lines : Result (Vec ℕ Global) Error) → ComesTo (AreOutcome fs answers config items) lines
      → AreOutcome fs answers config items (outcome_of lines) ⊎ (outcome_of lines ≡ Err (plain memory))
  come_to (Ok text) h = inl h
  come_to (Err e) (inl wants) = inr (ap Err wants)
  come_to (Err e) (inr h) = inl h

  -- what items come to by a configuration is printed
  pub prints_items : (lines : Result (Vec ℕ Global) Error) (answer : Answer) → ComesTo (AreOutcome fs answers config items) lines
      → Shows as_it_is (outcome_of lines) answer → PrintsItems fs answers config items (answer_text answer) answer.status
  prints_items lines answer h (stated, inl same, text, status) =
      (stated, subst (λ (o : Result (List ℕ) Refusal). AreOutcome fs answers config items o ⊎ (o ≡ Err (plain memory))) (sym same) (come_to lines h), text, status)
  prints_items lines answer h (stated, inr wants, text, status) = (stated, inr wants, text, status)
