use Rattle.cc2_value.specs.Shown.{fields_at}
use Rattle.cc2_resolved.specs.Sites.{site_of}
use Rattle.cc2_resolved.specs.Rows.{by_row, rows_at}
use Rattle.cc2_resolved.proofs.Fields.{table_resolved, none_refused, row_refused}
use Rattle.cc2_resolved_tables.proofs.table.resolve_table.Goals as goal

pub returns-in-Ok : goal.returns-in-Ok
returns-in-Ok g c =
    let rows = g.T.Resolved.ResolvedTable.rows in
    let look = fields_at g.T.ResolveTable.fields c.args.table in
    let is = table_resolved (site_of c.args.place.now) look c.settle_each.new.resolved rows c.in-Ok.ensures.ok in
    (is, none_refused (by_row rows) (site_of c.args.place.now) look (rows_at rows c.settle_each.new.resolved) is)

pub returns : goal.returns
returns g c =
    row_refused g.T.Resolved.ResolvedTable.rows (site_of c.args.place.now)
    (fields_at g.T.ResolveTable.fields c.args.table) c.in-Err.refused.key.now c.in-Err.refused.error
    c.in-Err.ensures.refused
