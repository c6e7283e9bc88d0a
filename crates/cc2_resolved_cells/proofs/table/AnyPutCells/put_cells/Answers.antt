use Rattle.std.proofs.lemmas.Result.{on_ok_weaker}
use Rattle.cc2_resolved_cells.proofs.Rows.{table_are}
use Rattle.cc2_resolved_cells.proofs.table.AnyPutCells.put_cells.Goals as goal

pub returns-clause-shown : goal.returns-clause-shown
returns-clause-shown g c =
    on_ok_weaker c.put_below.result
    (table_are c.args.self.now g.T.ResolvedTable.rows (g.T.CellTable.parts c.args.self.now) g.met.T.CellTable.distinct)
    c.put_below.ensures.shown
