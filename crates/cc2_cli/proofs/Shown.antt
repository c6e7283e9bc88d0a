-- What a composed answer shows of an outcome.
use Rattle.std.proofs.Common.{◌≡◌, ◌⊎◌, ℕ, List, Result, Ok, Err, Vec, Global, IfOk, refl, sym, ap, subst, ◌∙◌, inl, inr}
use Rattle.cc2_error.specs.Causes.{Refusal, memory, plain}
use Rattle.cc2_error.specs.declared.error.NoMemory.{NoMemory}
use Rattle.cc2_cli.specs.Answers.{IsAnswerOf, Refuses, Shows}
use Rattle.cc2_cli.specs.Endings.{refusal_lines, IsOutcome}
use Rattle.cc2_cli.specs.declared.answer.Answer.{Answer}

-- an answer composed of a value
pub shown : {A : Type 0} (lines : A → List ℕ) (value : A) (outcome : Result A Refusal) (text : Result (Vec ℕ Global) NoMemory) (answer : Answer)
    → outcome ≡ Ok value → IfOk text (λ t. t.items ≡ lines value) → IsAnswerOf text 0 answer → Shows lines outcome answer
shown lines value outcome (Ok t) answer is written h = (Ok value, inl (sym is), h.0 ∙ written, h.1)
shown lines value outcome (Err f) answer is written h = (Err (plain memory), inr refl, h.0, h.1)

-- one composed of a refusal
pub refuses : (refusal : Refusal) (text : Result (Vec ℕ Global) NoMemory) (answer : Answer)
    → IfOk text (λ t. t.items ≡ refusal_lines refusal) → IsAnswerOf text 1 answer → Refuses refusal answer
refuses refusal (Ok t) answer written h = (refusal, inl refl, h.0 ∙ written, h.1)
refuses refusal (Err f) answer written h = (plain memory, inr refl, h.0, h.1)

-- it shows the outcome that is this refusal; out of memory shows any
pub refused : {A : Type 0} (lines : A → List ℕ) (outcome : Result A Refusal) (refusal : Refusal) (answer : Answer)
    → (outcome ≡ Err refusal) ⊎ (refusal ≡ plain memory) → Refuses refusal answer → Shows lines outcome answer
refused lines outcome refusal answer (inl is) (stated, inl same, text, status) = (Err stated, inl (ap Err same ∙ sym is), text, status)
refused lines outcome refusal answer (inl is) (stated, inr wants, text, status) = (Err stated, inr (ap Err wants), text, status)
refused lines outcome refusal answer (inr none) (stated, inl same, text, status) = (Err stated, inr (ap Err (same ∙ none)), text, status)
refused lines outcome refusal answer (inr none) (stated, inr wants, text, status) = (Err stated, inr (ap Err wants), text, status)

-- what is stated is an outcome where that which it shows is one
pub stated_outcome : {A : Type 0} (Is : A → Type 0) (Stands : Refusal → Type 0) (outcome stated : Result A Refusal)
    → IsOutcome outcome Is Stands → (stated ≡ outcome) ⊎ (stated ≡ Err (plain memory)) → IsOutcome stated Is Stands
stated_outcome {A} Is Stands outcome stated h (inl is) = subst (λ (o : Result A Refusal). IsOutcome o Is Stands) (sym is) h
stated_outcome {A} Is Stands outcome stated h (inr is) = subst (λ (o : Result A Refusal). IsOutcome o Is Stands) (sym is) (inl refl)
