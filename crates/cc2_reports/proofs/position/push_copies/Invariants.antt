use Rattle.std.proofs.Common.{◌≡◌, ◌++◌, drop, map, string_bytes}
use Rattle.cc2_reports.proofs.position.push_copies.Given as goal

abbrev pub invariant-loop-key : goal.invariant-loop-key
invariant-loop-key l =
    map string_bytes l.keys.items ++ map string_bytes (drop l.key-index l.others)
    ≡ map string_bytes l.initial.keys.items ++ map string_bytes l.others
