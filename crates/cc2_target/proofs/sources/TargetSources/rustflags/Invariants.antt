use Rattle.std.proofs.Common.{◌≡◌, ◌++◌, map, flat_map, drop, string_bytes}
use Rattle.cc2_target.specs.Sources.{flag_texts, joined}
use Rattle.cc2_target.proofs.sources.TargetSources.rustflags.Given as goal

abbrev pub invariant-loop-true_table : goal.invariant-loop-true_table
invariant-loop-true_table l =
    (l.true_table-items ≡ l.fn.self.true_tables.now)
    × (map string_bytes l.rustflags.items
    ++ flat_map (λ t. flag_texts t.rustflags) (map (λ t. t.now) (drop l.true_table-index l.true_table-items))
    ≡ joined (λ t. t.rustflags) l.fn.self.variables.now.rustflags l.fn.self)
