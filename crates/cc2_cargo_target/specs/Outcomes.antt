-- What a result is, where a relation says which: a value or an error of it, or that memory ran out.
use Rattle.std.specs.Prelude.{◌⊎◌, Result, Ok, Err}
use Rattle.cc2_error.specs.Causes.{Refusal, refusal_of}
use Rattle.cc2_error.specs.Outcomes.{IsWantOfMemory}
use Rattle.cc2_error.specs.declared.error.Error.{Error}

abbrev pub GivesOne : {T A : Type 0} → (T → A) → Result T Error → (Result A Refusal → Type 0) → Type 0
GivesOne view (Ok value) Is = Is (Ok (view value))
GivesOne view (Err e) Is = IsWantOfMemory e ⊎ Is (Err (refusal_of e))
