use Rattle.std.proofs.Common.{◌≡◌, ◌++◌, map, false}
use Rattle.serde_json.specs.View.{view}
use Rattle.serde_json.specs.Written.{has_float}
use Rattle.cc2_json.specs.TomlLines as spec
use Rattle.cc2_json.specs.TomlPlaces.{AllFree, lines_of, places_of, weights}
use Rattle.cc2_json.proofs.lines.toml_lines.Given as goal

abbrev pub invariant-places : goal.invariant-places
invariant-places l = has_float (view l.fn.json) ≡ false
    → AllFree (places_of l.left.items)
    × (l.lines.items ++ lines_of l.fn.origins (places_of l.left.items)
    ≡ spec.toml_lines l.fn.origins (map (λ p. p.now) l.fn.pieces) (view l.fn.json))

abbrev pub decreases-places : goal.decreases-places
decreases-places l = weights (places_of l.left.items)
