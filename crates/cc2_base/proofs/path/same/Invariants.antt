use Rattle.std.proofs.Common.{◌≡◌, ◌++◌, List, ℕ}
use Rattle.std.specs.Path.{path_components, components_remaining}
use Rattle.cc2_base.proofs.path.same.Given as goal

-- the components taken off the ends are the same
abbrev pub invariant-loop-last : goal.invariant-loop-last
invariant-loop-last l =
    (done : List (List ℕ)) × (path_components l.path ≡ components_remaining l.last-iterator.iter ++ done) × (path_components l.other ≡ components_remaining l.others ++ done)
