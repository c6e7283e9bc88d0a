use Rattle.cc2_json.proofs.Settled.{one_field, settled}
use Rattle.cc2_json.proofs.laws.one_object.Goals as goal

pub returns-clause-object : goal.returns-clause-object
returns-clause-object c = settled

pub returns-clause-field : goal.returns-clause-field
returns-clause-field c = one_field
