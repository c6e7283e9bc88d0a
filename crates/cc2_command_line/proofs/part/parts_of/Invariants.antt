use Rattle.std.proofs.Common.{◌≡◌, map, string_bytes, length}
use Rattle.cc2_command_line.specs.Parts.{part_view}
use Rattle.cc2_command_line.specs.Parts as spec
use Rattle.cc2_command_line.proofs.Behind.{behind}
use Rattle.cc2_command_line.proofs.part.parts_of.Given as goal

-- the parts that were read, and those of the words that are left
abbrev pub invariant-loop-rest : goal.invariant-loop-rest
invariant-loop-rest l =
    behind (map part_view l.parts.items) (spec.parts_of (map string_bytes l.rest)) ≡ spec.parts_of (map string_bytes l.fn.words)

abbrev pub decreases-loop-rest : goal.decreases-loop-rest
decreases-loop-rest l = length l.rest
