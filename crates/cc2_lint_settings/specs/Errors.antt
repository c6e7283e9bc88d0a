-- The error of a result, apart from out of memory, and the one that is stated.
use Rattle.std.specs.Prelude.{◌≡◌, ◌≢◌, Option, Some, None, Result, Ok, Err}
use Rattle.cc2_error.specs.Causes.{Refusal, memory, refusal_of}
use Rattle.cc2_error.specs.declared.error.Error.{Error}

-- it is the error that the result has, and not out of memory; none where it has a value
abbrev pub IsErrorOf : {T : Type 0} → Result T Error → Option Error → Type 0
IsErrorOf (Ok value) None = Unit {0}
IsErrorOf (Ok value) (Some error) = ⊥
IsErrorOf (Err e) None = ⊥
IsErrorOf (Err e) (Some error) = (error ≡ e) × ((refusal_of e).cause ≢ memory)

-- what is stated is refused with this error, or it isn't refused
abbrev pub IsStated : {A : Type 0} → Result A Refusal → Option Error → Type 0
IsStated {A} stated None = (answer : A) × (stated ≡ Ok answer)
IsStated stated (Some error) = stated ≡ Err (refusal_of error)
