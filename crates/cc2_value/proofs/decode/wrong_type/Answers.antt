use Rattle.std.proofs.Common.{ap, ◌∙◌}
use Rattle.cc2_error.specs.Causes.{plain, wrong_type}
use Rattle.cc2_value.specs.Ways.{ill_typed}
use Rattle.cc2_value.proofs.Decoded.{fault_here}
use Rattle.cc2_value.proofs.decode.wrong_type.Goals as goal

pub returns-in-Ok : goal.returns-in-Ok
returns-in-Ok c =
    fault_here c.args.key.now ill_typed _ (c.new.ensures ∙ ap (λ keys. plain (wrong_type keys)) c.in-Ok.ensures)
