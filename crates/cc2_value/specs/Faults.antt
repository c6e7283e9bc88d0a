-- Errors that say that memory ran out.
use Rattle.std.specs.Prelude.{◌≡◌, Bool, true, false}
use Rattle.cc2_error.specs.Causes.{refusal_of, memory}
use Rattle.cc2_error.specs.declared.error.Error.{Error}

-- whether the error says so
abbrev pub IsMemory : Error → Bool → Type 0
IsMemory e true = Unit {0}
IsMemory e false = (refusal_of e).cause ≡ memory → ⊥
