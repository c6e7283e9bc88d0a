use Rattle.std.proofs.Common.{◌≡◌, map, length}
use Rattle.cc2_command_line.specs.Commands.{first_unfit}
use Rattle.cc2_command_line.specs.Parts.{part_view}
use Rattle.cc2_command_line.proofs.command.expect_fit.Given as goal

abbrev pub invariant-loop-rest : goal.invariant-loop-rest
invariant-loop-rest l = first_unfit l.verb (map part_view l.rest) ≡ first_unfit l.fn.verb (map part_view l.fn.parts)

abbrev pub decreases-loop-rest : goal.decreases-loop-rest
decreases-loop-rest l = length l.rest
