use Rattle.std.proofs.Common.{◌≡◌, map, string_bytes, length}
use Rattle.cc2_cli.specs.Choices.{are_pairs}
use Rattle.cc2_cli.proofs.choices.are_pairs.Given as goal

abbrev pub invariant-loop-rest : goal.invariant-loop-rest
invariant-loop-rest l = are_pairs (map string_bytes l.rest) ≡ are_pairs (map string_bytes l.fn.words)

abbrev pub decreases-loop-rest : goal.decreases-loop-rest
decreases-loop-rest l = length l.rest
