use Rattle.std.proofs.Common.{◌≡◌, ◌++◌, List, String, Global}
use Rattle.cc2_value.proofs.GatheredMaps.{AreSoFar}
use Rattle.cc2_target_table.specs.declared.target.Node.{Node}
use Rattle.cc2_target_table.specs.Target.{node_at}
use Rattle.cc2_target_table.proofs.target.merge.+gather.Given as goal

-- the entries done are merged under the high map, and the others follow them
abbrev pub invariant-gather_nested-loop-key : goal.invariant-gather_nested-loop-key
invariant-gather_nested-loop-key l =
    (done : List (String Global × Node)) × (l.fn.low.entries ≡ done ++ l.key-iterator) × AreSoFar node_at done l.fn.high l.high
