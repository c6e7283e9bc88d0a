use Rattle.std.proofs.Common.{◌≡◌, map, take}
use Rattle.cc2_resolved.specs.Texts.{texts_of}
use Rattle.cc2_resolved.specs.Targets.{command_text}
use Rattle.cc2_resolved.specs.ShownTargets.{target_at}
use Rattle.cargo_config2.proofs.build_target.command_texts.Given as goal

abbrev pub invariant-loop-target : goal.invariant-loop-target
invariant-loop-target l = texts_of l.texts.items ≡ map command_text (map target_at (take l.target-index l.targets))
