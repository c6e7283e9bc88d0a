use Rattle.std.proofs.Common.{ℕ, List, ap, ◌∙◌, take}
use Rattle.cc2_resolved_cells.specs.Cells.{row_keys, row_cells}
use Rattle.cc2_resolved_cells.specs.Writers.{key_of_kind}
use Rattle.cc2_resolved_cells.proofs.Written.{below_written, key_small}
use Rattle.cc2_resolved_cells.proofs.table.put_below.Goals as goal

pub returns-clause-written : goal.returns-clause-written
returns-clause-written g c =
    let mark = c.in_ok-mark.ensures in
    let taken = ap (λ n. take n c.put_each.new.to.path.items) mark.length in
    below_written (key_of_kind c.args.kind c.args.key.now) (row_cells (row_keys g.T.ResolvedTable.rows) (g.T.CellTable.parts c.args.table.now))
    c.args.to.now c.enter.new.self c.put_each.new.to c.leave.new.self (key_small c.args.kind c.args.key.now mark.short) mark.bytes mark.front
    c.in_ok-put_each.ensures.written c.leave.ensures.bytes (c.leave.ensures.depth ∙ mark.depth) (◌∙◌ {A = List ℕ} c.leave.ensures.path taken)
