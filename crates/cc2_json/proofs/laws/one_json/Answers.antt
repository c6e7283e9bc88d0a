use Rattle.cc2_json.proofs.Floats.{is_free}
use Rattle.cc2_json.proofs.One.{one}
use Rattle.cc2_json.proofs.Read.{read}
use Rattle.cc2_json.proofs.laws.one_json.Goals as goal

pub returns-clause-of_objects : goal.returns-clause-of_objects
returns-clause-of_objects c = read

pub returns-clause-one : goal.returns-clause-one
returns-clause-one c = one

pub returns-clause-no_float : goal.returns-clause-no_float
returns-clause-no_float c = is_free
