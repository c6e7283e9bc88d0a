-- What a load is answered with.
use Rattle.std.proofs.Common.{◌≡◌, ◌⊎◌, ℕ, Bool, List, [], ◌∷◌, true, false, Result, Ok, Err, IfOk, Vec, Global, refl, sym, subst, inl, inr}
use Rattle.cc2_error.specs.Causes.{Refusal, memory, plain}
use Rattle.cc2_error.specs.declared.error.NoMemory.{NoMemory}
use Rattle.cc2_base.specs.Told.{Tree}
use Rattle.cc2_base.specs.declared.machine.Machine.{Machine}
use Rattle.cargo_config2.specs.declared.config.Config.{Config}
use Rattle.cc2_cli.specs.Answers.{answer_text, Refuses}
use Rattle.cc2_cli.specs.Choices.{are_pairs}
use Rattle.cc2_cli.specs.declared.answer.Answer.{Answer}
use Rattle.cc2_answers.specs.Choices.{IsConfigUnder, IsConfigUnderCause, overrides_by}
use Rattle.cc2_reply.specs.Answered.{IsLoadAnswer, IsLoadedOrMemory}
use Rattle.cc2_reply.specs.Replies.{LoadAnswers, LoadGives}
use Rattle.cc2_reply.specs.States.{AreBytesFor, AreCellsOf, AreStateBytes}
use Rattle.cc2_reply.specs.declared.load.Answered.{Answered}
use Rattle.cc2_reply.specs.declared.load.Answered.TheVariants as answered
use Rattle.cc2_reply.proofs.Contexts.{context_under}

module _ (fs : Tree) (machine : Machine) (dir : List ℕ) (words : List (List ℕ)) where
  -- words that are no pairs have an empty answer
  pub no_pairs : (a : Answer) → are_pairs words ≡ false → answer_text a ≡ [] → a.status ≡ 2
      → IsLoadAnswer fs machine dir words (answered.Answer a)
  no_pairs a are none two = subst (λ (b : Bool). LoadAnswers b fs machine dir words (answer_text a) a.status) (sym are) (none, two)

  -- a load that is refused has the lines of its refusal
  pub load_refused : (refusal : Refusal) (a : Answer) → are_pairs words ≡ true
      → (refusal ≡ plain memory) ⊎ IsConfigUnderCause fs machine dir (overrides_by words) refusal → Refuses refusal a
      → IsLoadAnswer fs machine dir words (answered.Answer a)
  load_refused refusal a are h (stated, inl same, text, status) =
      subst (λ (b : Bool). LoadAnswers b fs machine dir words (answer_text a) a.status) (sym are)
      (stated, subst (λ (r : Refusal). (r ≡ plain memory) ⊎ IsConfigUnderCause fs machine dir (overrides_by words) r) (sym same) h, text, status)
  load_refused refusal a are h (stated, inr wants, text, status) =
      subst (λ (b : Bool). LoadAnswers b fs machine dir words (answer_text a) a.status) (sym are) (stated, inl wants, text, status)

  -- a loaded configuration has its state in the context of the machine and the directory
  with_context : (config : Config) (bytes : List ℕ) → IsConfigUnder fs machine dir (overrides_by words) config → AreBytesFor config bytes
      → AreStateBytes machine dir config bytes
  with_context config [] under none = none
  with_context config (b ∷ bytes) (options, alone, under) (s, read, of) = (
    s,
    read,
    record {
      state = of;
      context = context_under (overrides_by words) options machine dir config.loaded.context alone under.directory under.context;
      nothing_kept = under.nothing_kept;
      no_targets = under.no_targets;
    },
  )

  -- a configuration that is loaded gives its cells and its state, or memory ran out
  pub load_given : (config : Config) → are_pairs words ≡ true → IsConfigUnder fs machine dir (overrides_by words) config
      → ((refusal : Refusal) → ¬ (IsConfigUnderCause fs machine dir (overrides_by words) refusal))
      → (loaded : Result (Vec ℕ Global × Vec ℕ Global) NoMemory) (given : Answered)
      → IfOk loaded (λ r. AreCellsOf config r.0.items)
      → IfOk loaded (λ r. AreBytesFor config r.1.items)
      → IsLoadedOrMemory loaded given → IsLoadAnswer fs machine dir words given
  load_given config are is free (Ok r) (answered.Loaded cells state) shown bytes (same, also) =
      subst (λ (b : Bool). LoadGives b fs machine dir words cells.items state.items) (sym are)
      (record {
        config = config;
        is = is;
        free = free;
        shows = subst (λ (v : Vec ℕ Global). AreCellsOf config v.items) (sym same) shown;
        leaves = subst (λ (v : Vec ℕ Global). AreStateBytes machine dir config v.items) (sym also) (with_context config r.1.items is bytes);
      })
  load_given config are is free (Ok r) (answered.Answer a) shown bytes none = absurd none
  load_given config are is free (Err e) (answered.Loaded cells state) shown bytes none = absurd none
  load_given config are is free (Err e) (answered.Answer a) shown bytes (text, status) =
      subst (λ (b : Bool). LoadAnswers b fs machine dir words (answer_text a) a.status) (sym are) (plain memory, inl refl, text, status)
