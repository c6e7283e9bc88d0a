-- Causes that apply.
use Rattle.std.proofs.Common.{◌≡◌, ◌⊎◌, ap, inl, inr}
use Rattle.cc2_error.specs.Causes.{Refusal, memory, refusal_of}
use Rattle.cc2_error.specs.Outcomes.{IsWantOfMemory}
use Rattle.cc2_error.specs.declared.error.Error.{Error}

-- an error that is not out of memory has a cause
pub caused : (Stands : Refusal → Type 0) (e : Error) → IsWantOfMemory e ⊎ Stands (refusal_of e) → ((refusal_of e).cause ≡ memory → ⊥)
    → (refusal : Refusal) × Stands refusal
caused Stands e (inl wants) other = absurd (other (ap (λ r. r.cause) wants))
caused Stands e (inr stands) other = (refusal_of e, stands)
