use Rattle.std.proofs.Common.{◌≡◌, map, length}
use Rattle.cc2_command_line.specs.Parts.{part_view}
use Rattle.cc2_command_line.specs.Selected as spec
use Rattle.cc2_command_line.proofs.selected.has_flag.Given as goal

abbrev pub invariant-loop-rest : goal.invariant-loop-rest
invariant-loop-rest l = spec.has_flag l.flag (map part_view l.rest) ≡ spec.has_flag l.fn.flag (map part_view l.fn.parts)

abbrev pub decreases-loop-rest : goal.decreases-loop-rest
decreases-loop-rest l = length l.rest
