use Rattle.std.proofs.lemmas.Map.Text.{text_keys}
use Rattle.std.proofs.Common.{arith}
use Rattle.cc2_cargo.proofs.real_paths.RealPathTable.put.Goals as goal

pub returns-clause-ok : goal.returns-clause-ok
returns-clause-ok c q = grind (arith, text_keys)
