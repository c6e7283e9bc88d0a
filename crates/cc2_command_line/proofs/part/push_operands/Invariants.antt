use Rattle.std.proofs.Common.{◌≡◌, ◌++◌, map, take, string_bytes}
use Rattle.cc2_command_line.specs.Parts.{operand, part_view}
use Rattle.cc2_command_line.proofs.part.push_operands.Given as goal

abbrev pub invariant-loop-word : goal.invariant-loop-word
invariant-loop-word l =
    map part_view l.parts.items ≡ map part_view l.fn.parts.items ++ map operand (map string_bytes (take l.word-index l.words))
