use Rattle.std.proofs.lemmas.Result.{IfOk-weaker}
use Rattle.cc2_resolved_cells.proofs.AllTables.{tables_are}
use Rattle.cc2_resolved_cells.proofs.all_tables.tables_cells.Goals as goal

pub returns-clause-shown : goal.returns-clause-shown
returns-clause-shown c = IfOk-weaker c.row_bytes.result _ _ (λ bytes. tables_are c.args.tables.now) c.row_bytes.ensures.shown
