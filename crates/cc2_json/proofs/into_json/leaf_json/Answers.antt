use Rattle.cc2_json.specs.Trees.{leaf}
use Rattle.cc2_json.proofs.Trees.{leaf_tree}
use Rattle.cc2_json.proofs.into_json.leaf_json.Goals as goal

pub returns-in-Ok : goal.returns-in-Ok
returns-in-Ok g c =
    let value = c.args.value.now in
    record {
      tree = leaf (g.T.Leaf.cell value);
      of = leaf_tree g.T.MergeFrom.cell_at g.T.Leaf.cell value (g.met.T.Leaf.alone value) (g.met.T.Leaf.no_table value);
      is = c.in-Ok.ensures;
    }
