use Rattle.std.proofs.Common.{◌≡◌, ◌++◌, List, length, map}
use Rattle.cc2_cargo.specs.Loads.{AreFaultless, Layer, layer_cells, layer_of}
use Rattle.cc2_cargo.specs.Merging.{IsRawMapOf}
use Rattle.cc2_cargo.specs.Raw.{raw_members_at}
use Rattle.cc2_cargo.proofs.layer.merged.Given as goal

-- the weaker layers are merged, and the stronger ones are left
abbrev pub invariant-layers : goal.invariant-layers
invariant-layers l =
    (done : List Layer) × (map layer_of l.fn.layers.items ≡ map layer_of l.left.items ++ done) × AreFaultless done
    × IsRawMapOf layer_cells done (raw_members_at l.merged)

abbrev pub decreases-layers : goal.decreases-layers
decreases-layers l = length l.left.items
