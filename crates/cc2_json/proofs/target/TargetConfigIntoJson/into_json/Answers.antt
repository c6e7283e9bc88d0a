use Rattle.cc2_json.proofs.Nested.{target_is}
use Rattle.cc2_json.proofs.target.TargetConfigIntoJson.into_json.Goals as goal

pub returns : goal.returns
returns c =
    target_is c.args.form c.args.self c.object.result c.new-members.result.entries c.put_table.new.members.entries c.new-members.ensures.empty
    c.in_ok-put_table.ensures c.object.ensures
