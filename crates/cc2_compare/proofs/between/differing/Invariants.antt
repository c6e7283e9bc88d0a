use Rattle.std.proofs.Common.{◌≡◌, ◌++◌, map}
use Rattle.std.specs.Vec.Iter.{into_iter_items}
use Rattle.serde_json.specs.View.{view}
use Rattle.cc2_reports.specs.Problems.{subjects_of}
use Rattle.cc2_compare.specs.Differences.{differences}
use Rattle.cc2_compare.specs.Between.{differing_subject}
use Rattle.cc2_compare.specs.ValuePaths.{path_view}
use Rattle.cc2_compare.proofs.between.differing.Given as goal

abbrev pub invariant-loop-path : goal.invariant-loop-path
invariant-loop-path l =
    subjects_of l.reports.items ++ map (differing_subject l.dir) (map path_view (into_iter_items l.path-iterator))
    ≡ map (differing_subject l.dir) (differences (view l.of_crate) (view l.of_cargo))
