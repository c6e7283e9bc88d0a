use Rattle.std.proofs.Common.{true, Some, refl}
use Rattle.cc2_leaf.specs.Env.{env_fields}
use Rattle.cc2_json.proofs.Trees.{table_is}
use Rattle.cc2_json.proofs.env.table_json.Goals as goal

pub returns : goal.returns
returns c =
    table_is c.args.form true env_fields (record { value = Some c.args.value; force = c.args.force; relative = c.args.relative })
    c.object.result c.new-members.result.entries c.put_into.new.members.entries
    refl c.new-members.ensures.empty c.in_ok-put_into.ensures c.object.ensures
