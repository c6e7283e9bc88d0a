use Rattle.std.proofs.Common.{◌≡◌, map, drop}
use Rattle.cc2_target.specs.Sources.{first_present, chosen, linker_origin}
use Rattle.cc2_target.proofs.sources.TargetSources.linker.Given as goal

abbrev pub invariant-loop-true_table : goal.invariant-loop-true_table
invariant-loop-true_table l =
    (l.true_table-items ≡ l.fn.self.true_tables.now)
    × (first_present (map (λ t. t.linker) (map (λ t. t.now) (drop l.true_table-index l.true_table-items)))
    ≡ chosen (λ t. t.linker) linker_origin l.fn.self.variables.now.linker l.fn.self)
