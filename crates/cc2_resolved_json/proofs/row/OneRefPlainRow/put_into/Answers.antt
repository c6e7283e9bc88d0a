use Rattle.cc2_json.proofs.Trees.{on_ok, first_put}
use Rattle.cc2_resolved_json.specs.Plain.{plain_at, without_origins}
use Rattle.cc2_resolved_json.proofs.row.OneRefPlainRow.put_into.Goals as goal

pub returns : goal.returns
returns g c =
    on_ok c.put_field.result
    (first_put (without_origins c.args.tokens) c.args.keys.now _ (plain_at (g.T.ToJson.shown c.args.self.now.part.now)) c.in_ok-json.json
    c.args.members.now.entries c.put_field.new.members.entries c.requires c.in_ok-json.ensures.shown)
    (rw c.without_origins.ensures at c.put_field.ensures)
