use Rattle.std.proofs.Common.{◌≡◌, ◌++◌, drop, map, string_bytes}
use Rattle.cc2_cli.specs.CommandLines.{text_lines}
use Rattle.cc2_cli.proofs.list.push_texts.Given as goal

abbrev pub invariant-loop-at : goal.invariant-loop-at
invariant-loop-at l =
    l.out.items ++ text_lines l.key l.at (map string_bytes (drop l.at l.texts))
    ≡ l.initial.out.items ++ text_lines l.key 0 (map string_bytes l.texts)
