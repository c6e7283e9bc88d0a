use Rattle.std.specs.Vec.Iter.{into_iter_items}
use Rattle.cc2_rustc.specs.Printed.{atoms_of}
use Rattle.cc2_value.specs.Rows.{texts_of}
use Rattle.cc2_lint_settings.proofs.Holding.{AreSoFar}
use Rattle.cc2_lint_settings.proofs.held.held.Given as goal

abbrev pub invariant-loop-key : goal.invariant-loop-key
invariant-loop-key l =
    AreSoFar (atoms_of l.set) (texts_of l.fn.keys.items) (texts_of (into_iter_items l.key-iterator)) (texts_of l.held.items)
