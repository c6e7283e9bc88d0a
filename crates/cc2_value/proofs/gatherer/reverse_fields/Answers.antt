use Rattle.std.proofs.lemmas.Result.{on_ok_weaker}
use Rattle.cc2_value.proofs.GatheredTables.{fields_reversed}
use Rattle.cc2_value.proofs.gatherer.reverse_fields.Goals as goal

pub returns : goal.returns
returns g c = on_ok_weaker c.each_alone.result (fields_reversed g.T.Fields.fields c.args.table.now _) c.each_alone.ensures
