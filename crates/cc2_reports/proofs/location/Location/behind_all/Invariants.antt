use Rattle.std.proofs.Common.{◌≡◌, ◌+◌, List, ℕ, take, drop, length, ◌-◌, ◌^◌, ◌≤◌}
use Rattle.cc2_reports.specs.Locations.{IsLocation}
use Rattle.cc2_reports.proofs.location.Location.behind_all.Given as goal

-- it is the location of its offset, where the bytes so far are those of the text
abbrev pub invariant-loop-byte : goal.invariant-loop-byte
invariant-loop-byte l =
    (text : List ℕ) → length text ≤ 2 ^ 64 - 1 → IsLocation text l.fn.self → take (length l.bytes) (drop l.fn.self.offset text) ≡ l.bytes
    → IsLocation text l.here × (l.here.offset ≡ l.fn.self.offset + l.byte-index)
