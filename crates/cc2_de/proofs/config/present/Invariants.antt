use Rattle.std.proofs.Common.{◌≡◌, ◌++◌, Some, map}
use Rattle.std.specs.Vec.Iter.{into_iter_items}
use Rattle.cc2_de.proofs.config.present.Given as goal

abbrev pub invariant-loop-config : goal.invariant-loop-config
invariant-loop-config l = record {
  all : l.yielded ++ into_iter_items l.config-iterator ≡ l.fn.configs.items;
  so_far : l.list.items ≡ map Some l.yielded;
}
