-- What is answered by a state.
use Rattle.std.proofs.Common.{◌≡◌, ◌⊎◌, ℕ, List, Bool, true, false, not, Some, None, is_some, if◌then◌else◌, ◌&&◌, [], Result, Err, refl, ap, ◌∙◌, inl, inr}
use Rattle.std.specs.List.{list_any}
use Rattle.std.proofs.lemmas.Bool.{and_parts, not-true}
use Rattle.cc2_error.specs.Causes.{Refusal, memory, plain}
use Rattle.cc2_base.specs.Told.{Tree}
use Rattle.cc2_base.specs.ToldPrograms.{Answers}
use Rattle.cc2_base.specs.declared.machine.Machine.{Machine}
use Rattle.cc2_env.specs.Options.{chosen_cargo}
use Rattle.cargo_config2.proofs.Fresh.{fresh_agrees}
use Rattle.cargo_config2.specs.Loads.{nothing_chosen}
use Rattle.cargo_config2.specs.declared.config.Config.{Config}
use Rattle.cc2_cli.specs.Answers.{answer_text, Refuses}
use Rattle.cc2_cli.specs.declared.answer.Answer.{Answer}
use Rattle.cc2_answers.specs.Items.{Item, are_alone, is_build, is_empty, items_alone, items_of, parted}
use Rattle.cc2_answers.specs.Left.{IsReady}
use Rattle.cc2_answers.specs.Outcomes.{AreOutcome}
use Rattle.cc2_answers.specs.SeveralRuns.{PrintsItems}
use Rattle.cc2_reply.specs.States.{AnswersItems, IsConfigBy, IsOutcomeBySome, IsOutcomeOfState, IsWithoutContext, PrintsBySome}
use Rattle.cc2_state.specs.State.{LoadState}
use Rattle.cc2_reply.proofs.Contexts.{reads_alike}
use Rattle.cc2_reply.proofs.SameAnswers.{outcome_alike}

module _ (fs : Tree) (answers : Answers) (machine : Machine) (dir : List ℕ) (s : LoadState) where
  -- a configuration by a state keeps nothing yet, and its rustc is none that was chosen
  pub state_ready : (c : Config) → IsConfigBy machine dir s c → IsReady fs answers c
  state_ready c by = record {
    agrees = fresh_agrees fs answers c by.nothing_kept by.no_targets;
    unchosen = by.context.rustc;
  }

  some_outcome : (c : Config) (items : List Item) (outcome : Result (List ℕ) Refusal) → IsConfigBy machine dir s c
      → AreOutcome fs answers c items outcome ⊎ (outcome ≡ Err (plain memory))
      → IsOutcomeBySome fs answers machine dir s items outcome ⊎ IsWithoutContext fs answers machine dir outcome
  some_outcome c items outcome by (inl h) = inl (c, by, h)
  some_outcome c items outcome by (inr wants) = inr (inr wants)

  -- what is printed of items by a configuration that has the state
  pub items_by : (c : Config) (items : List Item) (text : List ℕ) (status : ℕ) → IsConfigBy machine dir s c
      → PrintsItems fs answers c items text status → PrintsBySome fs answers machine dir s items text status
  items_by c items text status by (outcome, come, is, ends) = (outcome, some_outcome c items outcome by come, is, ends)

  refused_by : (refusal stated : Refusal) → (refusal ≡ plain memory) ⊎ (chosen_cargo nothing_chosen machine ≡ Err refusal)
      → stated ≡ refusal → IsWithoutContext fs answers machine dir (Err stated)
  refused_by refusal stated (inl wants) same = inr (ap Err (same ∙ wants))
  refused_by refusal stated (inr is) same = inl (refusal, is, ap Err same)

  -- why there is no context
  pub no_context : (items : List Item) (refusal : Refusal) (answer : Answer)
      → (refusal ≡ plain memory) ⊎ (chosen_cargo nothing_chosen machine ≡ Err refusal) → Refuses refusal answer
      → PrintsBySome fs answers machine dir s items (answer_text answer) answer.status
  no_context items refusal answer h (stated, inl same, text, status) = (Err stated, inr (refused_by refusal stated h same), text, status)
  no_context items refusal answer h (stated, inr wants, text, status) = (Err stated, inr (inr (ap Err wants)), text, status)

  -- what items come to by one configuration that has the state they come to by each
  by_each : (items : List Item) (outcome : Result (List ℕ) Refusal) → list_any is_build items ≡ false
      → IsOutcomeBySome fs answers machine dir s items outcome ⊎ IsWithoutContext fs answers machine dir outcome
      → IsOutcomeOfState fs answers machine dir s items outcome ⊎ IsWithoutContext fs answers machine dir outcome
  by_each items outcome none (inr without) = inr without
  by_each items outcome none (inl (c, is, come)) =
      inl (record {
        config = c;
        is = is;
        by = λ d also. outcome_alike fs answers c d (reads_alike machine dir s c d is also) items outcome none come;
      })

  module _ (words : List (List ℕ)) (text : List ℕ) (status : ℕ) where
    abbrev Gives : Bool → Type 0
    Gives are = AnswersItems fs answers machine dir s (if are then Some (items_of words) else None) text status

    abbrev alone : Bool
    alone = are_alone (parted words) && not (is_empty words)

    none_builds : alone ≡ true → list_any is_build (items_of words) ≡ false
    none_builds is =
        let both = and_parts (are_alone (parted words)) (not (is_empty words)) is in
        not-true (list_any is_build (items_of words)) (and_parts (is_empty (parted words).1) (not (list_any is_build (items_of words))) both.0).1

    -- words that are items give what those give
    pub words_alone : is_some (items_alone words) ≡ true → PrintsBySome fs answers machine dir s (items_of words) text status
        → AnswersItems fs answers machine dir s (items_alone words) text status
    words_alone is (outcome, come, printed, ends) = go (are_alone (parted words) && not (is_empty words)) refl is
      where
        go : (are : Bool) → (are_alone (parted words) && not (is_empty words)) ≡ are → is_some (if are then Some (items_of words) else None) ≡ true → Gives are
        go true holds found = (outcome, by_each (items_of words) outcome (none_builds holds) come, printed, ends)
        go false holds found = cc

    -- other words have an empty text
    pub not_alone : is_some (items_alone words) ≡ false → text ≡ [] → status ≡ 2 → AnswersItems fs answers machine dir s (items_alone words) text status
    not_alone is none two = go (are_alone (parted words) && not (is_empty words)) is
      where
        go : (are : Bool) → is_some (if are then Some (items_of words) else None) ≡ false → Gives are
        go true found = cc
        go false found = (none, two)
