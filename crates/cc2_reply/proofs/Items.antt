-- The answer to several questions of a directory, by what words ask.
use Rattle.std.proofs.Common.{◌≡◌, ℕ, List, [], true, false, Option, Some, None, is_none, refl, sym, true≢false}
use Rattle.cc2_base.specs.Told.{Tree}
use Rattle.cc2_base.specs.ToldPrograms.{Answers}
use Rattle.cc2_base.specs.declared.machine.Machine.{Machine}
use Rattle.cc2_answers.specs.Items.{Several}
use Rattle.cc2_answers.specs.SeveralRuns.{SeveralGives}
use Rattle.cc2_reply.specs.Replies.{ItemsAnswers}

module _ (fs : Tree) (answers : Answers) (machine : Machine) (dir text : List ℕ) (status : ℕ) where
  -- words that ask something
  pub of_some : (asked : Option Several) → false ≡ is_none asked
      → ((s : Several) → asked ≡ Some s → SeveralGives fs answers machine dir s text status)
      → ItemsAnswers fs answers machine dir asked text status
  of_some None some gives = absurd (true≢false (sym some))
  of_some (Some s) some gives = gives s refl

  -- words that are no question
  pub of_none : (asked : Option Several) → true ≡ is_none asked → text ≡ [] → status ≡ 2
      → ItemsAnswers fs answers machine dir asked text status
  of_none None none empty two = (empty, two)
  of_none (Some s) none empty two = absurd (true≢false none)
