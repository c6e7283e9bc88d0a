use Rattle.std.proofs.Common.{◌≡◌, length, map}
use Rattle.cc2_resolved.specs.ShownTargets.{target_at}
use Rattle.cc2_target_answers.specs.CrateTargets.{all_targets}
use Rattle.cc2_target_answers.proofs.Found.{behind}
use Rattle.cc2_target_answers.proofs.by_crate.given_targets.Given as goal

abbrev pub invariant-loop-rest : goal.invariant-loop-rest
invariant-loop-rest l =
    all_targets (map (λ text. text.now) l.fn.texts)
    ≡ behind (map target_at l.given.items) (all_targets (map (λ text. text.now) l.rest))

abbrev pub decreases-loop-rest : goal.decreases-loop-rest
decreases-loop-rest l = length l.rest
