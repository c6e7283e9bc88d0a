-- The variable of a key. Cargo Reference, Configuration, environment variables.
use Rattle.std.specs.Prelude.{ℕ, List, ◌∷◌, ◌++◌, map, flat_map, codes}
use Rattle.cc2_base.specs.VariableNames.{in_variable}
use Rattle.cc2_cargo.specs.Raw.{Path}

-- `CARGO`, and each key in upper case behind an `_`
abbrev pub key_variable : Path → List ℕ
key_variable path = codes "CARGO" ++ flat_map (λ k. 95 ∷ map in_variable k) path
