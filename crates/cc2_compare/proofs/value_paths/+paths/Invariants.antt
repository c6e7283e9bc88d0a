use Rattle.std.proofs.Common.{◌≡◌, ◌++◌, map}
use Rattle.serde_json.specs.View.{members_view}
use Rattle.cc2_value.specs.Rows.{texts_of}
use Rattle.cc2_compare.specs.ValuePaths.{path_view, paths_below}
use Rattle.cc2_compare.proofs.value_paths.+paths.Given as goal

-- the paths so far, and those of the members left
abbrev pub invariant-push_below-loop-key : goal.invariant-push_below-loop-key
invariant-push_below-loop-key l =
    map path_view l.paths.items ++ paths_below (texts_of l.path) (members_view l.key-iterator)
    ≡ map path_view l.fn.paths.items ++ paths_below (texts_of l.path) (members_view l.members.entries)
