use Rattle.cc2_json.proofs.Trees.{table_is}
use Rattle.cc2_json.proofs.row.AnyIntoJson.into_json.Goals as goal

pub returns : goal.returns
returns g c =
    table_is c.args.form g.T.Table.member g.T.Fields.fields c.args.self c.object.result c.new-members.result.entries c.put_fields.new.members.entries
    g.met.T.Fields.distinct c.new-members.ensures.empty c.in_ok-put_fields.ensures c.object.ensures
