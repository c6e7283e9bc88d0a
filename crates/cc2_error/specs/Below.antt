-- A refusal, seen from the whole that has the refused part at a key.
use Rattle.std.specs.Prelude.{◌≡◌, ◌⊎◌, ℕ, List, ◌∷◌}
use Rattle.cc2_error.specs.Causes.{Cause, memory, wrong_type, mixed, Refusal, plain}

-- the cause with one key more at the front of its key path
abbrev pub cause_below : List ℕ → Cause → Cause
cause_below key (wrong_type path) = wrong_type (key ∷ path)
cause_below key (mixed path expected found) = mixed (key ∷ path) expected found
cause_below key other = other

-- the same refusal with its key path from the whole, or out of memory
abbrev pub IsBelow : List ℕ → Refusal → Refusal → Type 0
IsBelow key inner outer = (outer ≡ plain memory) ⊎ (outer ≡ record { cause = cause_below key inner.cause; context = inner.context })
