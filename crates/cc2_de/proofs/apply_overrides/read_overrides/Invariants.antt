use Rattle.std.proofs.Common.{◌≡◌, length, map, take}
use Rattle.cc2_base.specs.Told.{Tree}
use Rattle.cc2_env.specs.CommandLine.{override_of}
use Rattle.cc2_de.specs.LoadedOverrides.{AreOfOverrides}
use Rattle.cc2_de.proofs.apply_overrides.read_overrides.Given as goal

abbrev pub invariant-loop-one : goal.invariant-loop-one
invariant-loop-one g l = record {
  counted : length l.read.items ≡ l.one-index;
  read : (fs : Tree) → g.F.Files.told l.files fs → AreOfOverrides fs l.directory (map override_of (take l.one-index l.overrides)) l.read.items;
}
