use Rattle.std.proofs.Common.{◌≡◌, Some, length}
use Rattle.cc2_value.specs.Rows.{texts_of}
use Rattle.cc2_compare.specs.Reads.{is_crate_key, is_crate_key_from}
use Rattle.cc2_compare.proofs.read.is_crate_key.Given as goal

-- the place of the keys left
abbrev pub invariant-loop-left : goal.invariant-loop-left
invariant-loop-left l = is_crate_key_from (Some l.place) (texts_of l.left) ≡ is_crate_key (texts_of l.fn.path)

abbrev pub decreases-loop-left : goal.decreases-loop-left
decreases-loop-left l = length l.left
