use Rattle.std.proofs.lemmas.Result.{on_ok_weaker}
use Rattle.cc2_resolved_cells.proofs.Shown.{both_are}
use Rattle.cc2_resolved_cells.proofs.Written.{rows_written}
use Rattle.cc2_resolved_cells.proofs.row.PairCellRow.put_row.Goals as goal

pub returns-clause-written : goal.returns-clause-written
returns-clause-written g c =
    let row = c.args.self.now in
    on_ok_weaker c.put_row-2.result
    (rows_written (g.A.CellRow.parts row.front) (g.B.CellRow.parts row.back) c.args.to.now c.put_row.new.to c.put_row-2.new.to
    c.in_ok-put_row.ensures.written)
    c.put_row-2.ensures.written

pub returns-clause-shown : goal.returns-clause-shown
returns-clause-shown g c =
    let row = c.args.self.now in
    on_ok_weaker c.put_row-2.result
    (both_are (g.A.CellRow.parts row.front) (g.B.CellRow.parts row.back) (g.A.CellRow.looks row.front) (g.B.CellRow.looks row.back)
    c.in_ok-put_row.ensures.shown)
    c.put_row-2.ensures.shown
