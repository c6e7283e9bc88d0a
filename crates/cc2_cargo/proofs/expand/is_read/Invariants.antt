use Rattle.std.proofs.Common.{◌≡◌, drop, map}
use Rattle.cc2_cargo.specs.Expanding.{is_read, config_file}
use Rattle.cc2_cargo.proofs.expand.is_read.Given as goal

-- the file is among those that are left, or among none
abbrev pub invariant-loop-file : goal.invariant-loop-file
invariant-loop-file l = is_read l.path (map config_file (drop l.file-index l.read)) ≡ is_read l.path (map config_file l.read)
