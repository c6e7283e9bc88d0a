use Rattle.std.proofs.Common.{◌≡◌}
use Rattle.cc2_reports.specs.Positions.{source_text}
use Rattle.cc2_reports.proofs.source.Source.of_table.Given as goal

abbrev pub invariant-loop-name : goal.invariant-loop-name
invariant-loop-name l = source_text l.source ≡ l.fn.text
