-- What an outcome prints, and the status that a program ends with.
use Rattle.std.specs.Prelude.{◌≡◌, ◌⊎◌, ℕ, List, [], ◌++◌, codes, Option, Some, None, Result, Ok, Err}
use Rattle.cc2_error.specs.Causes.{Cause, memory, Refusal, plain, cause_behind}
use Rattle.cc2_error.specs.ErrorTexts.{own_line, printed}

abbrev pub cause_line : Option Cause → List ℕ
cause_line None = []
cause_line (Some cause) = codes "cause: " ++ (own_line cause ++ codes "\n")

-- the lines of a refusal: what it prints, and its cause where it has a context
abbrev pub refusal_lines : Refusal → List ℕ
refusal_lines refusal = codes "error: " ++ (printed refusal ++ (codes "\n" ++ cause_line (cause_behind refusal)))

-- the lines of an answer, or of why there is none
abbrev pub outcome_text : {A : Type 0} → (A → List ℕ) → Result A Refusal → List ℕ
outcome_text lines (Ok answer) = lines answer
outcome_text lines (Err refusal) = refusal_lines refusal

abbrev pub outcome_status : {A : Type 0} → Result A Refusal → ℕ
outcome_status (Ok answer) = 0
outcome_status (Err refusal) = 1

-- the outcome is an answer, and no cause applies; or it is a cause that applies, or out of memory
abbrev pub IsOutcome : {A : Type 0} → Result A Refusal → (A → Type 0) → (Refusal → Type 0) → Type 0
IsOutcome (Ok answer) Is Stands = Is answer × ((refusal : Refusal) → ¬ (Stands refusal))
IsOutcome (Err refusal) Is Stands = (refusal ≡ plain memory) ⊎ Stands refusal

-- the text and the status are those of such an outcome
abbrev pub Prints : {A : Type 0} → (A → List ℕ) → (A → Type 0) → (Refusal → Type 0) → List ℕ → ℕ → Type 0
Prints {A} lines Is Stands text status =
    (outcome : Result A Refusal) × IsOutcome outcome Is Stands
    × (text ≡ outcome_text lines outcome) × (status ≡ outcome_status outcome)
