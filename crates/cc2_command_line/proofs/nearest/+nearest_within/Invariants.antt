use Rattle.std.proofs.Common.{length}
use Rattle.cc2_command_line.proofs.nearest.+nearest_within.Given as goal

-- the words that are left
abbrev pub decreases-nearest_within : goal.decreases-nearest_within
decreases-nearest_within l = length l.known.now
