use Rattle.std.proofs.Common.{ap, ◌∙◌, map, List}
use Rattle.cc2_cfg.specs.Table.{row_of}
use Rattle.cc2_cfg.specs.declared.expression.Node.{Node}
use Rattle.cc2_cfg.proofs.Planting.{tree_from-same, table-same}
use Rattle.cc2_cfg.proofs.expression.Expression.try_clone.Goals as goal

pub invariant_of-result : goal.invariant_of-result
invariant_of-result c =
    let rows = c.in_ok-clone_nodes.ensures ∙ ap (λ (z : List Node). map row_of z) c.as_slice.ensures.value in
    record {
      table = table-same c.in_ok-clone_nodes.field-0.items c.args.self.now.nodes.items rows
          c.args.self.now.table;
    }

pub returns-clause-same : goal.returns-clause-same
returns-clause-same c =
    tree_from-same c.in_ok-clone_nodes.field-0.items c.args.self.now.nodes.items
    (c.in_ok-clone_nodes.ensures ∙ ap (λ (z : List Node). map row_of z) c.as_slice.ensures.value)
