use Rattle.std.proofs.Common.{◌≡◌}
use Rattle.cc2_reports.specs.Positions.{source_text}
use Rattle.cc2_reports.proofs.source.Source.close_keys.Given as goal

abbrev pub invariant-loop-key : goal.invariant-loop-key
invariant-loop-key l = source_text l.self ≡ source_text l.fn.self
