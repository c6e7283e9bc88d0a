use Rattle.cc2_value.proofs.GatheredTables.{fields_gathered}
use Rattle.cc2_value.proofs.gatherer.gather_fields.Goals as goal

pub returns-in-Ok-clause-ok : goal.returns-in-Ok-clause-ok
returns-in-Ok-clause-ok g c = fields_gathered g.T.Fields.fields c.args.high.now c.args.low.now _ c.in-Ok.ensures.ok
