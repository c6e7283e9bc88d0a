use Rattle.std.proofs.lemmas.Result.{on_ok_weaker, IfErr-weaker}
use Rattle.cc2_value.proofs.GatheredTables.{table_gathered, table_ungathered}
use Rattle.cc2_value.proofs.table.AnyMergeFrom.gather.Goals as goal

pub returns-clause-ok : goal.returns-clause-ok
returns-clause-ok g c =
    on_ok_weaker c.gather_fields.result (table_gathered g.T.Table.member g.T.Fields.fields c.args.self.now
    c.args.low.now _) c.gather_fields.ensures.ok

pub returns-clause-refused : goal.returns-clause-refused
returns-clause-refused g c =
    IfErr-weaker c.gather_fields.result _ _ (table_ungathered g.T.Table.member g.T.Fields.fields
    c.args.self.now c.args.low.now) c.gather_fields.ensures.refused
