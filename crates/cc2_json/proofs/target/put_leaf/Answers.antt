use Rattle.std.proofs.Common.{[]}
use Rattle.cc2_value.specs.Shown.{option_at}
use Rattle.cc2_json.proofs.Trees.{on_ok, one_put}
use Rattle.cc2_json.proofs.target.put_leaf.Goals as goal

pub returns : goal.returns
returns g c =
    on_ok c.put_field.result
    (one_put c.args.form [] c.args.key.now (option_at g.T.MergeFrom.cell_at c.args.value.now) c.in_ok-json.json c.args.members.now.entries
    c.put_field.new.members.entries c.in_ok-json.ensures)
    c.put_field.ensures
