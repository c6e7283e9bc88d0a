use Rattle.std.proofs.Common.{◌≡◌, ◌++◌, drop}
use Rattle.cc2_value.specs.Values.{words_of}
use Rattle.cc2_cli.specs.Lines.{item_lines}
use Rattle.cc2_cli.proofs.settings.push_list.Given as goal

abbrev pub invariant-loop-at : goal.invariant-loop-at
invariant-loop-at l = l.out.items ++ item_lines l.key l.at (words_of (drop l.at l.items)) ≡ l.initial.out.items ++ item_lines l.key 0 (words_of l.items)
