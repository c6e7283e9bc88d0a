use Rattle.std.proofs.Common.{◌≡◌, map, take}
use Rattle.cc2_resolved.specs.ShownTargets.{target_at}
use Rattle.cargo_config2.proofs.build_target.copied_targets.Given as goal

abbrev pub invariant-loop-target : goal.invariant-loop-target
invariant-loop-target l = map target_at l.copies.items ≡ map target_at (take l.target-index l.targets)
