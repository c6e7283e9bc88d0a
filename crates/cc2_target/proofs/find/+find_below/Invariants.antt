use Rattle.std.proofs.Common.{length}
use Rattle.cc2_target.proofs.find.+find_below.Given as goal

abbrev pub decreases-find_below : goal.decreases-find_below
decreases-find_below l = length l.rest.now
