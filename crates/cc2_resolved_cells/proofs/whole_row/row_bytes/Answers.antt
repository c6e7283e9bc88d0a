use Rattle.cc2_resolved_cells.specs.Cells.{cells_of_parts}
use Rattle.cc2_resolved_cells.proofs.ReadBack.{all_written}
use Rattle.cc2_resolved_cells.proofs.whole_row.row_bytes.Goals as goal

pub returns-clause-bytes : goal.returns-clause-bytes
returns-clause-bytes g c =
    all_written (cells_of_parts (g.R.CellRow.parts c.args.row.now)) c.in_ok-to.to c.put_row.new.to c.into_bytes.result.items
    c.in_ok-to.ensures.bytes c.in_ok-to.ensures.front c.in_ok-put_row.ensures.written c.into_bytes.ensures
