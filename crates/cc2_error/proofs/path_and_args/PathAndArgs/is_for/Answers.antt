use Rattle.std.proofs.Common.{arith}
use Rattle.std.proofs.lemmas.Grind.{common_steps}
use Rattle.cc2_error.proofs.Commands.{pointwise-map}
use Rattle.cc2_error.proofs.path_and_args.PathAndArgs.is_for.Goals as goal

pub returns-then-eq : goal.returns-then-eq
returns-then-eq c = let e = pointwise-map c.args.self.now.args.items c.args.args.now in grind (arith, common_steps)
