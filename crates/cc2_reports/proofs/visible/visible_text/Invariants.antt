use Rattle.std.proofs.Common.{◌≡◌, flat_map, string_bytes}
use Rattle.cc2_reports.specs.Characters.{shown_char}
use Rattle.cc2_reports.proofs.visible.visible_text.Given as goal

abbrev pub invariant-loop-character : goal.invariant-loop-character
invariant-loop-character l = string_bytes l.shown ≡ flat_map (shown_char l.keeps_lines) l.yielded
