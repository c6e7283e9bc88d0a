-- A refusal that is recorded.
use Rattle.std.specs.Prelude.{◌≡◌, Option, Some}
use Rattle.cc2_error.specs.declared.error.Error.{Error}

-- a refusal of which P holds is recorded
abbrev pub IsTold : Option Error → (Error → Type 0) → Type 0
IsTold refusal P = (e : Error) × (refusal ≡ Some e) × P e
