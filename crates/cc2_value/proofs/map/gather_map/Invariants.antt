use Rattle.std.proofs.Common.{◌≡◌, ◌++◌, List, String, Global}
use Rattle.cc2_value.proofs.GatheredMaps.{AreSoFar}
use Rattle.cc2_value.proofs.map.gather_map.Given as goal

-- the entries done are merged under the high map, and the others follow them
abbrev pub invariant-loop-key : goal.invariant-loop-key
invariant-loop-key g l =
    (done : List (String Global × _)) × (l.fn.low.entries ≡ done ++ l.key-iterator) × AreSoFar g.V.MergeFrom.cell_at done l.fn.map l.map
