use Rattle.std.proofs.Common.{◌∙◌, ap}
use Rattle.cc2_command_line.specs.FaultViews.{fault_view}
use Rattle.cc2_command_line.specs.Messages.{framed, reason}
use Rattle.cc2_command_line.proofs.message.message_of.Goals as goal

pub returns : goal.returns
returns c =
    c.in_ok-format.ensures.ok
    ∙ (ap (λ why. framed why c.as_str-hint.result.now) (c.as_str-reason.ensures.value ∙ c.in_ok-reason.ensures)
    ∙ ap (framed (reason (fault_view c.args.fault.now))) (c.as_str-hint.ensures.value ∙ c.in_ok-hint.ensures))
