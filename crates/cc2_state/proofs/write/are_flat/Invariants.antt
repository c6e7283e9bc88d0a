use Rattle.std.proofs.Common.{◌≡◌, ◌++◌, All, List, String, Global}
use Rattle.cc2_target_table.specs.declared.target.TargetConfig.{TargetConfig}
use Rattle.cc2_state.specs.Shown.{IsFlatTable}
use Rattle.cc2_state.proofs.write.are_flat.Given as goal

-- the entries done are flat, and the others follow them
abbrev pub invariant-loop-table : goal.invariant-loop-table
invariant-loop-table l =
    (done : List (String Global × TargetConfig)) × (l.fn.tables.entries ≡ done ++ l.table-iterator) × All (λ e. IsFlatTable e.1) done
