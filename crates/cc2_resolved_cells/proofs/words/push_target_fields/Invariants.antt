use Rattle.std.proofs.Common.{◌≡◌, ◌++◌, map, drop}
use Rattle.cc2_ask.specs.Fields.{fields_bytes, AreShort}
use Rattle.cc2_resolved.specs.ShownTargets.{target_at}
use Rattle.cc2_resolved.specs.Targets.{command_text}
use Rattle.cc2_resolved_cells.proofs.words.push_target_fields.Given as goal

-- where the targets that are left are short, all are
abbrev pub invariant-loop-target : goal.invariant-loop-target
invariant-loop-target l = record {
  bytes : l.out.items ++ fields_bytes (map command_text (map target_at (drop l.target-index l.targets)))
      ≡ l.initial.out.items ++ fields_bytes (map command_text (map target_at l.targets));
  short : AreShort (map command_text (map target_at (drop l.target-index l.targets)))
      → AreShort (map command_text (map target_at l.targets));
}
