use Rattle.std.proofs.Common.{◌≡◌, ◌++◌, map}
use Rattle.std.specs.Prelude.{filter}
use Rattle.std.specs.Vec.Iter.{into_iter_items}
use Rattle.serde_json.specs.View.{view}
use Rattle.cc2_compare.specs.Differences.{differences, is_of_cargo_alone, is_other}
use Rattle.cc2_compare.specs.ValuePaths.{path_view, value_paths}
use Rattle.cc2_compare.proofs.differences.differences.Given as goal

-- those of cargo-config2 0.1.45 so far, and those that are left
abbrev pub invariant-loop-path : goal.invariant-loop-path
invariant-loop-path l =
    map path_view l.found.items ++ filter (is_other (view l.of_crate) (view l.of_cargo)) (map path_view (into_iter_items l.path-iterator))
    ≡ filter (is_other (view l.of_crate) (view l.of_cargo)) (value_paths (view l.of_crate))

-- the same, and those of Cargo alone that are left
abbrev pub invariant-loop-path-2 : goal.invariant-loop-path-2
invariant-loop-path-2 l =
    map path_view l.found.items ++ filter (is_of_cargo_alone (view l.of_crate)) (map path_view (into_iter_items l.path-iterator))
    ≡ differences (view l.of_crate) (view l.of_cargo)
