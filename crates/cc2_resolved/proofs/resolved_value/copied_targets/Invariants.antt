use Rattle.std.proofs.Common.{◌≡◌, map, take}
use Rattle.cc2_resolved.specs.ShownTargets.{target_at}
use Rattle.cc2_resolved.specs.Answers.{targets_of}
use Rattle.cc2_resolved.proofs.resolved_value.copied_targets.Given as goal

abbrev pub invariant-loop-target : goal.invariant-loop-target
invariant-loop-target l = targets_of l.copies ≡ map target_at (take l.target-index l.targets)
