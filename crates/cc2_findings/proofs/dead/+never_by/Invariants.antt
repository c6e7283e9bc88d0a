use Rattle.std.proofs.Common.{length}
use Rattle.cc2_findings.proofs.dead.+never_by.Given as goal

-- the predicates that are left
abbrev pub decreases-never_by : goal.decreases-never_by
decreases-never_by l = length l.others.now
