use Rattle.std.proofs.Common.{refl}
use Rattle.cc2_cargo.proofs.Steps.{comma-step, not-negation}
use Rattle.cc2_cargo.proofs.cfg_reader.Reader.separate.Goals as goal

pub returns-in-All : goal.returns-in-All
returns-in-All c =
    λ known s rep. comma-step known s c.args.self.now _ c.in-Value.operand c.in-Some.top c.add.result rep c.in-Value.is
    c.in-Some.is (not-negation c.in-Some.top.function c.in-All.is) c.add.ensures.function c.add.ensures.value refl refl refl
