use Rattle.std.proofs.Common.{◌≡◌, Some, ap, ◌∙◌}
use Rattle.toml.specs.Data.{as_table}
use Rattle.toml.specs.View.{view, table_view}
use Rattle.toml.specs.declared.value.Value.{Value}
use Rattle.toml.proofs.Views.{view-Table}
use Rattle.cc2_value.specs.Copies.{origin_given}
use Rattle.cc2_value.proofs.Decoded.{table_in, table_decoded}
use Rattle.cc2_value.proofs.table.read_table.Goals as goal

pub returns-in-Ok-clause-ok : goal.returns-in-Ok-clause-ok
returns-in-Ok-clause-ok g c =
    let origin = origin_given c.args.definition in
    let ms = table_view c.in-Table.table in
    let is : as_table (view c.args.value) ≡ Some ms = ap (λ (v : Value). as_table (view v)) c.in-Table.is ∙
    ap as_table (view-Table c.in-Table.table) in
    table_in g.T.Table.member g.T.Fields.fields origin (as_table (view c.args.value)) ms _ is
    (table_decoded g.T.Table.member g.T.Fields.fields origin ms _ c.in-Ok.ensures.ok)
