use Rattle.std.proofs.Common.{length}
use Rattle.cc2_findings.proofs.form.+form_below.Given as goal

-- the keys that are left
abbrev pub decreases-form_below : goal.decreases-form_below
decreases-form_below l = length l.behind.now
