use Rattle.std.proofs.Common.{ℕ, Option, Vec, Global, subst}
use Rattle.cc2_state.specs.Views.{IsStateWritten}
use Rattle.cc2_reply.proofs.OfLoads.{state_written}
use Rattle.cc2_reply.proofs.load.state_of.Goals as goal

pub returns-in-Some : goal.returns-in-Some
returns-in-Some c =
    state_written c.args.config.now c.parts_of.result c.in-Some.bytes c.parts_of.ensures
    (subst (λ (written : Option (Vec ℕ Global)). IsStateWritten c.parts_of.result written) c.in-Some.is c.in_ok-written.ensures)
