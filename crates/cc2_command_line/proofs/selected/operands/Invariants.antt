use Rattle.std.proofs.Common.{◌≡◌, map, take}
use Rattle.cc2_command_line.specs.Parts.{part_view}
use Rattle.cc2_command_line.specs.Selected as spec
use Rattle.cc2_command_line.proofs.selected.operands.Given as goal

abbrev pub invariant-loop-part : goal.invariant-loop-part
invariant-loop-part l = map (λ word. word.now) l.words.items ≡ spec.operands (map part_view (take l.part-index l.parts))
