use Rattle.std.proofs.Common.{◌≡◌, ◌∷◌, ◌++◌, drop, flat_map, map, string_bytes}
use Rattle.cc2_base.specs.VariableNames.{in_variable}
use Rattle.cc2_cargo_settings.specs.Names.{key_variable}
use Rattle.cc2_cargo_settings.proofs.names.key_variable.Given as goal

-- the name so far, and the keys left
abbrev pub invariant-loop-key : goal.invariant-loop-key
invariant-loop-key l =
    string_bytes l.name ++ flat_map (λ k. 95 ∷ map in_variable k) (map (λ k. k.now) (drop l.key-index l.path)) ≡ key_variable (map (λ k. k.now) l.path)
