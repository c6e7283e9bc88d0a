use Rattle.std.proofs.Common.{◌≡◌, map, drop, string_bytes}
use Rattle.cc2_ask.specs.Needs.{is_listed}
use Rattle.cc2_ask.proofs.candidates.is_listed.Given as goal

abbrev pub invariant-loop-one : goal.invariant-loop-one
invariant-loop-one l =
    is_listed l.path (map string_bytes (drop l.one-index l.paths)) ≡ is_listed l.path (map string_bytes l.paths)
