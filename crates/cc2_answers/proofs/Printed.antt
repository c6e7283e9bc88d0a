-- What a composed answer shows of an outcome is what is printed of it.
use Rattle.std.proofs.Common.{◌≡◌, ◌⊎◌, ℕ, List, Result, Err, refl, inl}
use Rattle.cc2_error.specs.Causes.{Refusal, plain, memory}
use Rattle.cc2_cli.specs.Answers.{answer_text, Refuses, Shows}
use Rattle.cc2_cli.specs.Endings.{IsOutcome, Prints}
use Rattle.cc2_cli.specs.declared.answer.Answer.{Answer}
use Rattle.cc2_cli.proofs.Shown.{refused, stated_outcome}

module _ {A : Type 0} (lines : A → List ℕ) (Is : A → Type 0) (Stands : Refusal → Type 0) where
  pub printed : (outcome : Result A Refusal) (answer : Answer) → IsOutcome outcome Is Stands → Shows lines outcome answer
      → Prints lines Is Stands (answer_text answer) answer.status
  printed outcome answer h (stated, which, text, status) =
      (stated, stated_outcome Is Stands outcome stated h which, text, status)

  -- a refusal
  pub printed_refusal : (refusal : Refusal) (answer : Answer) → (refusal ≡ plain memory) ⊎ Stands refusal
      → Refuses refusal answer → Prints lines Is Stands (answer_text answer) answer.status
  printed_refusal refusal answer h refuses =
      printed (Err refusal) answer h (refused lines (Err refusal) refusal answer (inl refl) refuses)
