use Rattle.std.proofs.Common.{◌≡◌, ◌++◌, map, string_bytes}
use Rattle.cc2_findings.specs.Findings.{below_key}
use Rattle.cc2_findings.specs.FindingViews.{finding_view}
use Rattle.cc2_findings.proofs.finding.all_below.Given as goal

-- what was put, and then those that are left
abbrev pub invariant-loop-finding : goal.invariant-loop-finding
invariant-loop-finding g l =
    map finding_view l.found.items ++ below_key (string_bytes l.key) (map finding_view l.finding-iterator.rest.items)
    ≡ below_key (string_bytes l.fn.key) (map finding_view l.fn.inner.items)
