-- What a result is, beside what is stated: an answer or a refusal; out of memory is always allowed.
use Rattle.std.specs.Prelude.{◌≡◌, ◌⊎◌, Result, Ok, Err}
use Rattle.cc2_error.specs.declared.error.Error.{Error}
use Rattle.cc2_error.specs.Causes.{Refusal, refusal_of, plain, memory}

-- memory ran out
abbrev pub IsWantOfMemory : Error → Type 0
IsWantOfMemory e = refusal_of e ≡ plain memory

-- memory ran out, or it is the refusal that is stated
abbrev pub IsRefusal : {A : Type 0} → Result A Refusal → Error → Type 0
IsRefusal stated e = IsWantOfMemory e ⊎ (stated ≡ Err (refusal_of e))

-- the result shows what is stated, or memory ran out
abbrev pub Gives : {T A : Type 0} → (T → A) → Result T Error → Result A Refusal → Type 0
Gives view (Ok value) stated = stated ≡ Ok (view value)
Gives view (Err e) stated = IsRefusal stated e

-- the result shows an answer and no refusal applies, or it is one that applies, or memory ran out
abbrev pub Answered : {T A : Type 0} → (T → A) → Result T Error → (A → Type 0) → (Refusal → Type 0) → Type 0
Answered view (Ok value) Is Stands = Is (view value) × ((refusal : Refusal) → ¬ (Stands refusal))
Answered view (Err e) Is Stands = IsWantOfMemory e ⊎ Stands (refusal_of e)
