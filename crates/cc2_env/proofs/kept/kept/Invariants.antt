use Rattle.std.specs.Vec.Iter.{into_iter_items}
use Rattle.cc2_env.proofs.Keeping.{IsKeptSoFar}
use Rattle.cc2_env.proofs.kept.kept.Given as goal

abbrev pub invariant-loop-name : goal.invariant-loop-name
invariant-loop-name l = IsKeptSoFar l.fn.env.items (into_iter_items l.name-iterator) l.map
