use Rattle.std.proofs.Common.{◌≡◌, ◌++◌, length, map}
use Rattle.std.specs.Vec.Iter.{into_iter_items}
use Rattle.cc2_cargo.specs.Expanding.{config_file}
use Rattle.cc2_cargo.specs.Loads.{layer_of, turned}
use Rattle.cc2_cargo.proofs.layer.with_files.Given as goal

-- the layers so far and those of the files that are left, which are counted, are all of them
abbrev pub invariant-loop-file : goal.invariant-loop-file
invariant-loop-file l =
    (l.left ≡ length (into_iter_items l.file-iterator))
    × (map layer_of l.all.items ++ turned l.of_override l.first (map config_file (into_iter_items l.file-iterator))
    ≡ map layer_of l.fn.layers.items ++ turned l.of_override l.first (map config_file l.fn.files.items))
