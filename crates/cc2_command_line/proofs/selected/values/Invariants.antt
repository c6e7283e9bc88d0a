use Rattle.std.proofs.Common.{◌≡◌, map, take}
use Rattle.cc2_command_line.specs.Parts.{part_view}
use Rattle.cc2_command_line.specs.Selected as spec
use Rattle.cc2_command_line.proofs.selected.values.Given as goal

abbrev pub invariant-loop-part : goal.invariant-loop-part
invariant-loop-part l =
    map (λ value. value.now) l.values.items ≡ spec.values l.setting (map part_view (take l.part-index l.parts))
