use Rattle.cc2_value.specs.Shown.{fields_at}
use Rattle.cc2_resolved.specs.Sites.{site_of}
use Rattle.cc2_resolved.proofs.Fields.{table_resolved, row_refused}
use Rattle.cc2_resolved_tables.proofs.table.AnySlot.settle.Goals as goal

pub returns-in-Ok-clause-ok : goal.returns-in-Ok-clause-ok
returns-in-Ok-clause-ok g c =
    table_resolved (site_of c.args.place.now) (fields_at g.T.ResolveTable.fields c.args.self.now)
    c.settle_each.new.resolved g.T.Resolved.ResolvedTable.rows c.in-Ok.ensures.ok

pub returns-in-Err-clause-refused : goal.returns-in-Err-clause-refused
returns-in-Err-clause-refused g c =
    row_refused g.T.Resolved.ResolvedTable.rows (site_of c.args.place.now)
    (fields_at g.T.ResolveTable.fields c.args.self.now)
    c.in-Err.refused.key.now c.in-Err.refused.error c.in-Err.ensures.refused
