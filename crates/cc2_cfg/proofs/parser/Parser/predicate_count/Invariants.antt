use Rattle.std.proofs.Common.{◌≤◌}
use Rattle.cc2_cfg.proofs.parser.Parser.predicate_count.Given as goal

abbrev pub invariant-loop-i : goal.invariant-loop-i
invariant-loop-i l = l.count ≤ l.i
