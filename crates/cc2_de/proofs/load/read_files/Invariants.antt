use Rattle.std.proofs.Common.{◌≡◌, List, Some, length, map, take, string_bytes}
use Rattle.cc2_base.specs.Told.{Tree}
use Rattle.cc2_de.specs.declared.config.Config.{Config}
use Rattle.cc2_de.specs.LoadedFiles.{AreOfFiles}
use Rattle.cc2_de.proofs.load.read_files.Given as goal

abbrev pub invariant-loop-path : goal.invariant-loop-path
invariant-loop-path g l = record {
  counted : length l.list.items ≡ l.path-index;
  read : (fs : Tree) → g.F.Files.told l.files fs → (configs : List Config)
      × (l.list.items ≡ map Some configs) × AreOfFiles fs (map string_bytes (take l.path-index l.paths)) configs;
}
