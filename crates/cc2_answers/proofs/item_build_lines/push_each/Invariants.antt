use Rattle.std.proofs.Common.{◌≡◌, ◌++◌, drop, map}
use Rattle.cc2_cli.specs.CommandLines.{text_lines}
use Rattle.cc2_resolved.specs.ShownTargets.{target_at}
use Rattle.cc2_resolved.specs.Targets.{command_text}
use Rattle.cc2_answers.proofs.item_build_lines.push_each.Given as goal

abbrev pub invariant-loop-at : goal.invariant-loop-at
invariant-loop-at l =
    l.out.items ++ text_lines l.key l.at (map command_text (map target_at (drop l.at l.targets)))
    ≡ l.initial.out.items ++ text_lines l.key 0 (map command_text (map target_at l.targets))
