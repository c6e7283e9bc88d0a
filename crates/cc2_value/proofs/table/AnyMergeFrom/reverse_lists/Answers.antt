use Rattle.std.proofs.lemmas.Result.{on_ok_weaker}
use Rattle.cc2_value.proofs.GatheredTables.{table_reversed}
use Rattle.cc2_value.proofs.table.AnyMergeFrom.reverse_lists.Goals as goal

pub returns : goal.returns
returns g c = on_ok_weaker c.reverse_fields.result (table_reversed g.T.Table.member g.T.Fields.fields c.args.self.now _) c.reverse_fields.ensures
