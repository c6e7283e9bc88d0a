-- What a result comes to.
use Rattle.std.specs.Prelude.{◌⊎◌, Result, Ok, Err}
use Rattle.cc2_error.specs.Causes.{Refusal, refusal_of}
use Rattle.cc2_error.specs.Outcomes.{IsWantOfMemory}
use Rattle.cc2_error.specs.declared.error.Error.{Error}

-- a result shows such an outcome, or memory ran out
abbrev pub Comes : {T A : Type 0} → (T → A) → (Result A Refusal → Type 0) → Result T Error → Type 0
Comes view Is (Ok value) = Is (Ok (view value))
Comes view Is (Err e) = IsWantOfMemory e ⊎ Is (Err (refusal_of e))
