-- What a variable of the table `env` is.
use Rattle.std.specs.Prelude.{ℕ, Bool, List, string_bytes}
use Rattle.cc2_resolved.specs.declared.env.EnvConfigValue.{EnvConfigValue}

pub record Variable : Type 0 where
  pub value : List ℕ
  -- whether it overrides one that the environment has
  pub force : Bool
  -- whether the value is still to be resolved
  pub relative : Bool

abbrev pub variable_of : EnvConfigValue → Variable
variable_of v = record { value = string_bytes v.value; force = v.force; relative = v.relative }
