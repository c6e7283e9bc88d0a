use Rattle.std.proofs.Common.{◌≡◌, ◌++◌, map, flat_map, drop, string_bytes}
use Rattle.cc2_target.specs.Sources.{flag_texts, joined}
use Rattle.cc2_target.proofs.sources.TargetSources.rustdocflags.Given as goal

abbrev pub invariant-loop-true_table : goal.invariant-loop-true_table
invariant-loop-true_table l =
    (l.true_table-items ≡ l.fn.self.true_tables.now)
    × (map string_bytes l.rustdocflags.items
    ++ flat_map (λ t. flag_texts t.rustdocflags) (map (λ t. t.now) (drop l.true_table-index l.true_table-items))
    ≡ joined (λ t. t.rustdocflags) l.fn.self.variables.now.rustdocflags l.fn.self)
