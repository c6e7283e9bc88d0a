use Rattle.std.proofs.Common.{◌≡◌, map, string_bytes, length}
use Rattle.cc2_answers.specs.Items.{parted}
use Rattle.cc2_answers.proofs.words.behind_items.Given as goal

abbrev pub invariant-loop-behind : goal.invariant-loop-behind
invariant-loop-behind l = (parted (map string_bytes l.rest)).1 ≡ (parted (map string_bytes l.fn.words)).1

abbrev pub decreases-loop-behind : goal.decreases-loop-behind
decreases-loop-behind l = length l.rest
