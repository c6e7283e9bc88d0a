use Rattle.std.proofs.Common.{◌≡◌, drop, map}
use Rattle.cc2_findings.specs.FindingViews.{finding_view}
use Rattle.cc2_lint.specs.Subjects.{has_token}
use Rattle.cc2_lint.proofs.files.has_token.Given as goal

abbrev pub invariant-loop-finding : goal.invariant-loop-finding
invariant-loop-finding l =
    has_token (map finding_view (drop l.finding-index l.findings)) ≡ has_token (map finding_view l.findings)
