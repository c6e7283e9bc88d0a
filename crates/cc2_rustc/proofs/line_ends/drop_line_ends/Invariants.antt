use Rattle.std.proofs.Common.{◌≡◌, length}
use Rattle.cc2_rustc.specs.LineEnds.{without_line_ends}
use Rattle.cc2_rustc.proofs.line_ends.drop_line_ends.Given as goal

abbrev pub invariant-loop-bytes : goal.invariant-loop-bytes
invariant-loop-bytes l = without_line_ends l.bytes.items ≡ without_line_ends l.initial.bytes.items

abbrev pub decreases-loop-bytes : goal.decreases-loop-bytes
decreases-loop-bytes l = length l.bytes.items
