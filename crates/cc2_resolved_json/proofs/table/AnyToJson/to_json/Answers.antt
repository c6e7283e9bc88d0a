use Rattle.cc2_resolved_json.proofs.ByRow.{table_json, entry_json}
use Rattle.cc2_resolved_json.proofs.table.AnyToJson.to_json.Goals as goal

pub returns-clause-shown : goal.returns-clause-shown
returns-clause-shown g c =
    table_json c.args.tokens g.T.ResolvedTable.rows c.args.self.now c.new-members.result.entries c.put_each.new.members.entries
    g.met.T.PlainTable.distinct c.new-members.ensures.empty c.in_ok-put_each.ensures c.object.result c.object.ensures

pub returns-clause-member : goal.returns-clause-member
returns-clause-member g c =
    entry_json c.args.tokens g.T.ResolvedTable.rows c.args.self.now c.new-members.result.entries c.put_each.new.members.entries
    g.met.T.PlainTable.distinct c.new-members.ensures.empty c.in_ok-put_each.ensures c.object.result c.object.ensures
