use Rattle.std.proofs.Common.{ap, ◌∙◌, map, List}
use Rattle.std.specs.Prelude.{filter_map}
use Rattle.cc2_cfg.specs.Table.{leaf_of, row_of}
use Rattle.cc2_cfg.specs.Shown.{tree_of}
use Rattle.cc2_cfg.specs.declared.expression.Node.{Node}
use Rattle.cc2_cfg.proofs.Leaves.{leaves-table}
use Rattle.cc2_cfg.proofs.expression.Expression.predicates.Goals as goal

pub returns : goal.returns
returns c = ap (λ (z : List Node). filter_map leaf_of (map row_of z)) c.as_slice.ensures.value
    ∙ leaves-table c.args.self.now.nodes.items (tree_of c.args.self.now) c.args.self.now.table
