use Rattle.std.proofs.Common.{◌≡◌, ◌++◌, List, String, Global}
use Rattle.cc2_target_table.specs.Target.{node_at}
use Rattle.cc2_target_table.specs.declared.target.Node.{Node}
use Rattle.cc2_json.proofs.Names.{ArePutSoFar}
use Rattle.cc2_json.proofs.Nested.{node_own}
use Rattle.cc2_json.proofs.target.+json.Given as goal

-- the entries that are done are put, and the others follow them
abbrev pub invariant-put_nested-loop-name : goal.invariant-put_nested-loop-name
invariant-put_nested-loop-name l =
    (done : List (String Global × Node)) × (l.fn.nested.entries ≡ done ++ l.name-iterator) × ArePutSoFar l.fn.form node_at node_own done l.fn.members.entries l.members.entries
