use Rattle.std.proofs.Common.{◌≡◌, map, take}
use Rattle.cc2_cfg.specs.Table.{row_of}
use Rattle.cc2_cfg.proofs.expression.clone_nodes.Given as goal

abbrev pub invariant-nodes : goal.invariant-nodes
invariant-nodes l = map row_of l.copy.items ≡ map row_of (take l.node-index l.nodes)
