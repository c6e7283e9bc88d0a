use Rattle.std.proofs.Common.{◌≡◌, ◌++◌, drop, map, string_bytes}
use Rattle.cc2_cargo_target.specs.Shown.{requested_view}
use Rattle.cc2_cargo_target.specs.Targets.{triple_of}
use Rattle.cc2_cargo_target.proofs.build_targets.each_triple.Given as goal

-- the triples so far, and those of the targets left
abbrev pub invariant-loop-one : goal.invariant-loop-one
invariant-loop-one l =
    map string_bytes l.triples.items ++ map (triple_of l.host) (map requested_view (drop l.one-index l.requested))
    ≡ map (triple_of l.host) (map requested_view l.requested)
