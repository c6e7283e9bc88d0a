use Rattle.std.proofs.lemmas.Result.{on_ok_weaker}
use Rattle.cc2_resolved_cells.proofs.Rows.{entry_are}
use Rattle.cc2_resolved_cells.proofs.table.AnyPutMember.put_member.Goals as goal

pub returns-clause-shown : goal.returns-clause-shown
returns-clause-shown g c =
    on_ok_weaker c.put_below.result
    (entry_are c.args.self.now g.T.ResolvedTable.rows (g.T.CellTable.parts c.args.self.now) g.met.T.CellTable.distinct)
    c.put_below.ensures.shown
