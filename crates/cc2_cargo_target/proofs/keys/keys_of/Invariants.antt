use Rattle.std.proofs.Common.{◌≡◌, ◌++◌, map, string_bytes}
use Rattle.cc2_cargo_target.proofs.keys.keys_of.Given as goal

abbrev pub invariant-loop-key : goal.invariant-loop-key
invariant-loop-key l =
    map (λ k. k.now) l.keys.items ++ map (λ e. string_bytes e.0) l.key-iterator ≡ map (λ e. string_bytes e.0) l.table.entries
