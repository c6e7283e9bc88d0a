use Rattle.std.proofs.Common.{◌≡◌}
use Rattle.std.specs.Vec.Iter.{into_iter_items}
use Rattle.cc2_value.specs.Values.{words_of}
use Rattle.cc2_resolved.specs.Answers.{targets_of}
use Rattle.cc2_resolved.specs.ResolvedTargets.{target_for}
use Rattle.cc2_resolved.specs.Turns.{in_turn}
use Rattle.cc2_resolved.proofs.Turns.{behind}
use Rattle.cc2_resolved.proofs.target.resolve_targets.Given as goal

abbrev pub invariant-loop-text : goal.invariant-loop-text
invariant-loop-text l =
    in_turn (target_for l.directory) (words_of l.fn.texts.items)
    ≡ behind (targets_of l.targets) (in_turn (target_for l.directory) (words_of (into_iter_items l.text-iterator)))
