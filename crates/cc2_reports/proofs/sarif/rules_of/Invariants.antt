use Rattle.std.proofs.Common.{◌≡◌, ◌++◌, drop, filter, map}
use Rattle.serde_json.specs.View.{view}
use Rattle.cc2_reports.specs.Lints.{name_of}
use Rattle.cc2_reports.specs.Problems.{problems_of}
use Rattle.cc2_reports.specs.Sarif.{occurs, rule_data}
use Rattle.cc2_reports.proofs.sarif.rules_of.Given as goal

-- those that were made, and those of the lints that are left
abbrev pub invariant-loop-lint : goal.invariant-loop-lint
invariant-loop-lint l =
    map view l.rules.items
    ++ map rule_data (filter (λ k. occurs (problems_of l.reports) (name_of k)) (drop l.lint-index l.lints))
    ≡ map rule_data (filter (λ k. occurs (problems_of l.fn.reports) (name_of k)) l.fn.lints)
