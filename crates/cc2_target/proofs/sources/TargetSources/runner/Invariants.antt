use Rattle.std.proofs.Common.{◌≡◌, map, drop}
use Rattle.cc2_target.specs.Sources.{first_present, chosen, runner_origin}
use Rattle.cc2_target.proofs.sources.TargetSources.runner.Given as goal

abbrev pub invariant-loop-true_table : goal.invariant-loop-true_table
invariant-loop-true_table l =
    (l.true_table-items ≡ l.fn.self.true_tables.now)
    × (first_present (map (λ t. t.runner) (map (λ t. t.now) (drop l.true_table-index l.true_table-items)))
    ≡ chosen (λ t. t.runner) runner_origin l.fn.self.variables.now.runner l.fn.self)
