use Rattle.std.proofs.Common.{◌≡◌, ◌++◌, map}
use Rattle.toml.specs.View.{members_view}
use Rattle.cc2_findings.specs.Findings.{findings_in}
use Rattle.cc2_findings.specs.FindingViews.{finding_view}
use Rattle.cc2_findings.proofs.finding.+findings.Given as goal

-- what was found, and then what is wrong at the entries that are left
abbrev pub invariant-findings_in-loop-key : goal.invariant-findings_in-loop-key
invariant-findings_in-loop-key g l =
    map finding_view l.found.items ++ findings_in g.T.Look.look l.place (members_view l.key-iterator)
    ≡ findings_in g.T.Look.look l.fn.place (members_view l.fn.table.entries)
