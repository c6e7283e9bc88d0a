use Rattle.std.proofs.Common.{◌≡◌, ◌++◌, ℕ, List, drop, map, string_bytes}
use Rattle.cc2_base.specs.Told.{WhereTold}
use Rattle.cc2_cargo.specs.Loads.{AreFileLayers, layer_of}
use Rattle.cc2_cargo.proofs.load.file_layers.Given as goal

-- the paths done have these layers, and the others follow them
abbrev pub invariant-loop-path : goal.invariant-loop-path
invariant-loop-path g l =
    (done : List (List ℕ)) × (map string_bytes l.paths ≡ done ++ map string_bytes (drop l.path-index l.paths))
    × WhereTold (g.F.Files.told l.files) (λ fs. AreFileLayers fs 0 done (map layer_of l.layers.items))
