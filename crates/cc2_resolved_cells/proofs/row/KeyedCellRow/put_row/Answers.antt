use Rattle.std.proofs.lemmas.Result.{on_ok_weaker}
use Rattle.cc2_resolved_cells.proofs.Written.{part_written}
use Rattle.cc2_resolved_cells.proofs.row.KeyedCellRow.put_row.Goals as goal

pub returns-clause-written : goal.returns-clause-written
returns-clause-written g c =
    let row = c.args.self.now in
    on_ok_weaker c.put_cells.result
    (part_written row.key.now (g.T.PutCells.cells row.part.now) c.args.to.now c.put_cells.new.to)
    c.put_cells.ensures.written
