use Rattle.std.proofs.Common.{◌≡◌, ◌++◌, drop, map, string_bytes}
use Rattle.cc2_cargo.specs.Expanding.{config_file}
use Rattle.cc2_cargo.specs.Overrides.{path_of}
use Rattle.cc2_cargo.proofs.overrides.with_paths.Given as goal

-- the paths so far and those of the files that are left are all of them
abbrev pub invariant-loop-file : goal.invariant-loop-file
invariant-loop-file l =
    map string_bytes l.paths.items ++ map path_of (map config_file (drop l.file-index l.files))
    ≡ map string_bytes l.fn.seen.items ++ map path_of (map config_file l.files)
