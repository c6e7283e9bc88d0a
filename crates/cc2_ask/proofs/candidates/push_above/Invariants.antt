use Rattle.std.proofs.Common.{◌≡◌, ◌++◌, map, flat_map, string_bytes}
use Rattle.cc2_base.specs.PathSteps.{ancestors_left}
use Rattle.cc2_ask.specs.Needs.{files_below}
use Rattle.cc2_ask.proofs.candidates.push_above.Given as goal

abbrev pub invariant-loop-above : goal.invariant-loop-above
invariant-loop-above l =
    map string_bytes l.paths.items ++ flat_map files_below (ancestors_left l.above-iterator)
    ≡ map string_bytes l.initial.paths.items ++ flat_map files_below (ancestors_left l.initial.above-iterator)
