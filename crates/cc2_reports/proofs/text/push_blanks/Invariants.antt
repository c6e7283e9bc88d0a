use Rattle.std.proofs.Common.{◌≡◌, ◌++◌, drop}
use Rattle.cc2_reports.specs.Text.{blanks}
use Rattle.cc2_reports.proofs.text.push_blanks.Given as goal

-- what was written, and the space that the characters left take
abbrev pub invariant-loop-byte : goal.invariant-loop-byte
invariant-loop-byte l =
    l.out.items ++ blanks l.left (drop l.byte-index l.byte-items) ≡ l.fn.out.items ++ blanks l.fn.count l.fn.line
