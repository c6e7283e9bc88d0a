use Rattle.cc2_json.proofs.Trees.{on_ok, first_put}
use Rattle.cc2_json.proofs.row.OneJsonRow.put_into.Goals as goal

pub returns : goal.returns
returns g c =
    on_ok c.put_field.result
    (first_put c.args.form c.args.keys.now _ (g.T.MergeFrom.cell_at c.args.self.part) c.in_ok-json.json c.args.members.now.entries
    c.put_field.new.members.entries c.requires c.in_ok-json.ensures)
    c.put_field.ensures
