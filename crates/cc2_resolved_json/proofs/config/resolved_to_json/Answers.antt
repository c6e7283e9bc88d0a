use Rattle.std.proofs.Common.{refl}
use Rattle.serde_json.specs.View.{view}
use Rattle.cargo_config2.specs.Config.{shown, tables_of}
use Rattle.cc2_json.proofs.Read.{read}
use Rattle.cc2_resolved_tables.specs.Tables.{tables_rows}
use Rattle.cc2_resolved_json.specs.Plain.{plain_at, without_origins}
use Rattle.cc2_resolved_json.proofs.ByRow.{object_json}
use Rattle.cc2_resolved_json.proofs.Tokens.{resolved_values}
use Rattle.cc2_resolved_json.proofs.config.resolved_to_json.Goals as goal

pub returns-clause-object : goal.returns-clause-object
returns-clause-object c =
    object_json c.args.tokens tables_rows (tables_of c.args.config.now) c.new-members.result.entries c.put_tables.new.members.entries
    refl c.new-members.ensures.empty c.in_ok-put_tables.ensures (view c.object.result) c.object.ensures

pub returns-clause-json : goal.returns-clause-json
returns-clause-json c =
    read (without_origins c.args.tokens) (plain_at (shown c.args.config.now)) (resolved_values c.args.config.now) (view c.object.result)
    (object_json c.args.tokens tables_rows (tables_of c.args.config.now) c.new-members.result.entries c.put_tables.new.members.entries
    refl c.new-members.ensures.empty c.in_ok-put_tables.ensures (view c.object.result) c.object.ensures)
