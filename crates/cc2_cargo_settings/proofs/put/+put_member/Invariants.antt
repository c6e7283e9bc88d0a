use Rattle.std.proofs.Common.{length}
use Rattle.cc2_cargo_settings.proofs.put.+put_member.Given as goal

abbrev pub decreases-put_member : goal.decreases-put_member
decreases-put_member l = length l.below.now
