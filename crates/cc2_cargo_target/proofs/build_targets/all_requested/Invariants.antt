use Rattle.std.proofs.Common.{◌≡◌, drop, map, string_bytes}
use Rattle.cc2_cargo_target.specs.Shown.{requested_view}
use Rattle.cc2_cargo_target.specs.Targets.{all_requested, requested_then}
use Rattle.cc2_cargo_target.proofs.build_targets.all_requested.Given as goal

-- what all texts ask for is what is read so far, and what those left ask for
abbrev pub invariant-loop-text : goal.invariant-loop-text
invariant-loop-text l =
    all_requested (map string_bytes l.texts)
    ≡ requested_then (map requested_view l.all.items) (all_requested (map string_bytes (drop l.text-index l.texts)))
