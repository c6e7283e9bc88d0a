use Rattle.std.proofs.Common.{◌≡◌, ◌+◌, drop}
use Rattle.cc2_reports.specs.Scanning.{IsTrueOf}
use Rattle.cc2_reports.proofs.locator.keys_in.Given as goal

-- what was found is true of the text, and the scanner is where the next byte is
abbrev pub invariant-loop-byte : goal.invariant-loop-byte
invariant-loop-byte l =
    let start = l.initial.scanner.here.offset in
    IsTrueOf l.fn.text l.scanner × (l.scanner.here.offset ≡ start + l.byte-index) × (l.byte-items ≡ drop start l.fn.text)
