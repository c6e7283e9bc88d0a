use Rattle.std.proofs.Common.{length}
use Rattle.cc2_cargo_settings.proofs.change.+meets.Given as goal

abbrev pub decreases-meets : goal.decreases-meets
decreases-meets l = length l.path.now
