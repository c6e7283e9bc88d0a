use Rattle.cc2_value.proofs.Tables.{fields_absent}
use Rattle.cc2_value.proofs.table.AnyPart.empty.Goals as goal

pub returns : goal.returns
returns g c = fields_absent g.T.Fields.fields _ c.absent.ensures
