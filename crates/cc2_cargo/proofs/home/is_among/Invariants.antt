use Rattle.std.proofs.Common.{◌≡◌, drop, map, string_bytes}
use Rattle.std.specs.List.{list_any}
use Rattle.cc2_cargo.specs.RealHomes.{is_home}
use Rattle.cc2_cargo.proofs.home.is_among.Given as goal

-- no folder so far is the home, so one is where one of those left is
abbrev pub invariant-loop-folder : goal.invariant-loop-folder
invariant-loop-folder l =
    list_any (is_home l.real_home l.home) (map string_bytes (drop l.folder-index l.folders))
    ≡ list_any (is_home l.real_home l.home) (map string_bytes l.folders)
