use Rattle.std.proofs.Common.{Some, ap}
use Rattle.cc2_cargo_settings.proofs.read.words_raw.Goals as goal

pub returns-in_ok-array-in-Some-clause-ok : goal.returns-in_ok-array-in-Some-clause-ok
returns-in_ok-array-in-Some-clause-ok c = rw c.in-Some.is (ap Some c.in_ok-array-in-Some.ensures.ok)
