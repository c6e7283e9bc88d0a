use Rattle.std.proofs.Common.{length}
use Rattle.cc2_findings.proofs.alone.+alone_at.Given as goal

-- the keys that are left
abbrev pub decreases-alone_at : goal.decreases-alone_at
decreases-alone_at l = length l.behind.now
