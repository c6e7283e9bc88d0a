use Rattle.std.proofs.Common.{◌≡◌, map, take}
use Rattle.serde_json.specs.View.{view}
use Rattle.cc2_reports.specs.Json.{problem_data}
use Rattle.cc2_reports.specs.Problems.{problems_of}
use Rattle.cc2_reports.proofs.json.reports_json.Given as goal

-- those that were made
abbrev pub invariant-loop-report : goal.invariant-loop-report
invariant-loop-report l =
    map view l.findings.items ≡ map problem_data (problems_of (take l.report-index l.reports))
