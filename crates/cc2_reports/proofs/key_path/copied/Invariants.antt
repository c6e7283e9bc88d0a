use Rattle.std.proofs.Common.{◌≡◌, map, string_bytes, take}
use Rattle.cc2_reports.proofs.key_path.copied.Given as goal

abbrev pub invariant-loop-key : goal.invariant-loop-key
invariant-loop-key l =
    map string_bytes l.copy.items ≡ map string_bytes (take l.key-index l.path)
