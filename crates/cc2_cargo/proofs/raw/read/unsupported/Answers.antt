use Rattle.std.proofs.Common.{rules, [], refl, inr, arith}
use Rattle.cc2_cargo.proofs.raw.read.unsupported.Goals as goal

pub returns : goal.returns
returns c = inr ([], (0, omega arith, refl), search rules)
