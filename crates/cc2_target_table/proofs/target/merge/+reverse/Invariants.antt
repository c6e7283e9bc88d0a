use Rattle.std.proofs.Common.{◌≡◌, ◌++◌, List, String, Global}
use Rattle.cc2_value.proofs.Built.{IsBuilt}
use Rattle.cc2_target_table.specs.declared.target.Node.{Node}
use Rattle.cc2_target_table.specs.Target.{node_at}
use Rattle.cc2_target_table.proofs.Targets.{reversed_seen}
use Rattle.cc2_target_table.proofs.target.merge.+reverse.Given as goal

-- the entries done have their lists reversed, and the others follow them
abbrev pub invariant-reversed_nested-loop-key : goal.invariant-reversed_nested-loop-key
invariant-reversed_nested-loop-key l =
    (done : List (String Global × Node)) × (l.fn.nested.entries ≡ done ++ l.key-iterator) × IsBuilt node_at reversed_seen done l.reversed
