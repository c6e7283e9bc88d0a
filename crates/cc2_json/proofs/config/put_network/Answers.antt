use Rattle.std.proofs.Common.{codes}
use Rattle.cc2_value.specs.Shown.{entry_at, fields_at, map_at}
use Rattle.cc2_tables.specs.Http.{http_fields}
use Rattle.cc2_tables.specs.Net.{net_fields}
use Rattle.cc2_tables.specs.Registries.{registries_fields}
use Rattle.cc2_tables.specs.Registry.{registry_fields}
use Rattle.cc2_json.proofs.Trees.{on_ok}
use Rattle.cc2_json.proofs.Groups.{four}
use Rattle.cc2_json.proofs.config.put_network.Goals as goal

pub returns : goal.returns
returns c =
    on_ok c.put_table-4.result
    (four c.args.form (codes "http") (codes "net") (codes "registries") (codes "registry")
    (fields_at http_fields c.args.http) (fields_at net_fields c.args.net) (map_at (entry_at registries_fields) c.args.registries) (fields_at registry_fields c.args.registry)
    c.args.members.now.entries c.put_table.new.members.entries c.put_table-2.new.members.entries c.put_table-3.new.members.entries c.put_table-4.new.members.entries
    c.in_ok-put_table.ensures c.in_ok-put_table-2.ensures c.in_ok-put_table-3.ensures)
    c.put_table-4.ensures
