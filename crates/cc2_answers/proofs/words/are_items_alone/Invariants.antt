use Rattle.std.proofs.Common.{◌≡◌, map, string_bytes, length}
use Rattle.cc2_answers.specs.Items.{are_alone, parted}
use Rattle.cc2_answers.proofs.words.are_items_alone.Given as goal

abbrev pub invariant-loop-item : goal.invariant-loop-item
invariant-loop-item l = are_alone (parted (map string_bytes l.rest)) ≡ are_alone (parted (map string_bytes l.fn.words))

abbrev pub decreases-loop-item : goal.decreases-loop-item
decreases-loop-item l = length l.rest
