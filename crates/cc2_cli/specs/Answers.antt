-- What a composed answer shows.
use Rattle.std.specs.Prelude.{◌≡◌, ◌⊎◌, ℕ, List, codes, Option, Some, None, Result, Ok, Err, Vec}
use Rattle.std.specs.declared.alloc.Global.{Global}
use Rattle.cc2_error.specs.Causes.{memory, plain, Refusal}
use Rattle.cc2_error.specs.declared.error.NoMemory.{NoMemory}
use Rattle.cc2_cli.specs.Endings.{refusal_lines, outcome_text, outcome_status}
use Rattle.cc2_cli.specs.declared.answer.Answer.{Answer}

abbrev pub text_or_memory : Option (Vec ℕ Global) → List ℕ
text_or_memory None = codes "error: out of memory\n"
text_or_memory (Some text) = text.items

-- the text that is written
abbrev pub answer_text : Answer → List ℕ
answer_text answer = text_or_memory answer.text

-- the text where it was composed, else the out-of-memory line and the status 1
abbrev pub IsAnswerOf : Result (Vec ℕ Global) NoMemory → ℕ → Answer → Type 0
IsAnswerOf (Ok text) status answer = (answer_text answer ≡ text.items) × (answer.status ≡ status)
IsAnswerOf (Err fault) status answer = (answer_text answer ≡ codes "error: out of memory\n") × (answer.status ≡ 1)

-- the answer is that of the refusal, or of the out-of-memory error
abbrev pub Refuses : Refusal → Answer → Type 0
Refuses refusal answer =
    (stated : Refusal) × ((stated ≡ refusal) ⊎ (stated ≡ plain memory))
    × (answer_text answer ≡ refusal_lines stated) × (answer.status ≡ 1)

-- the answer is that of the outcome, or of the out-of-memory error
abbrev pub Shows : {A : Type 0} → (A → List ℕ) → Result A Refusal → Answer → Type 0
Shows {A} lines outcome answer =
    (stated : Result A Refusal) × ((stated ≡ outcome) ⊎ (stated ≡ Err (plain memory)))
    × (answer_text answer ≡ outcome_text lines stated) × (answer.status ≡ outcome_status stated)
