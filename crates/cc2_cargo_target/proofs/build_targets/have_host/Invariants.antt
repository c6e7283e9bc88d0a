use Rattle.std.proofs.Common.{◌≡◌, drop, map}
use Rattle.std.specs.List.{list_any}
use Rattle.cc2_cargo_target.specs.Shown.{requested_view}
use Rattle.cc2_cargo_target.specs.Targets.{is_host}
use Rattle.cc2_cargo_target.proofs.build_targets.have_host.Given as goal

-- one of them is the host where one of those left is
abbrev pub invariant-loop-one : goal.invariant-loop-one
invariant-loop-one l = list_any is_host (map requested_view l.requested) ≡ list_any is_host (map requested_view (drop l.one-index l.requested))
