use Rattle.std.proofs.Common.{◌≡◌, ◌++◌, List, String, Global}
use Rattle.cc2_value.specs.Copies.{origin_given}
use Rattle.cc2_value.proofs.Built.{IsBuilt}
use Rattle.cc2_value.proofs.Copies.{copy_seen}
use Rattle.cc2_target_table.specs.declared.target.Node.{Node}
use Rattle.cc2_target_table.specs.Target.{node_at}
use Rattle.cc2_target_table.proofs.target.copy.+copy.Given as goal

-- the entries done are copied, and the others follow them
abbrev pub invariant-copied_nested-loop-key : goal.invariant-copied_nested-loop-key
invariant-copied_nested-loop-key l =
    (done : List (String Global × Node)) × (l.fn.nested.entries ≡ done ++ l.key-iterator) × IsBuilt node_at (copy_seen node_at (origin_given l.fn.definition)) done l.copies
