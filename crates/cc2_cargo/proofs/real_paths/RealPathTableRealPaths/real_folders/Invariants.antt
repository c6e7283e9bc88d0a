use Rattle.std.proofs.Common.{◌≡◌, ◌++◌, map, string_bytes}
use Rattle.cc2_base.specs.Paths.{ancestors_of}
use Rattle.cc2_base.specs.PathSteps.{ancestors_left}
use Rattle.cc2_cargo.specs.RealHomes.{real_folder}
use Rattle.cc2_cargo.specs.RealPaths.{real_paths_of}
use Rattle.cc2_cargo.proofs.real_paths.RealPathTableRealPaths.real_folders.Given as goal

-- the folders so far, and those of the directories left
abbrev pub invariant-loop-ancestor : goal.invariant-loop-ancestor
invariant-loop-ancestor l =
    map string_bytes l.folders.items ++ map (real_folder (real_paths_of l.self)) (ancestors_left l.ancestor-iterator)
    ≡ map (real_folder (real_paths_of l.self)) (ancestors_of l.dir)
