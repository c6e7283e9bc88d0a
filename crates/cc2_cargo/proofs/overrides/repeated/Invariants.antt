use Rattle.std.proofs.Common.{◌≡◌, drop, map, string_bytes}
use Rattle.cc2_cargo.specs.Expanding.{config_file}
use Rattle.cc2_cargo.specs.Overrides.{repeated}
use Rattle.cc2_cargo.proofs.overrides.repeated.Given as goal

-- the first of all is the first of those that are left
abbrev pub invariant-loop-file : goal.invariant-loop-file
invariant-loop-file l =
    repeated (map string_bytes l.seen) (map config_file (drop l.file-index l.files)) ≡ repeated (map string_bytes l.seen) (map config_file l.files)
