use Rattle.std.proofs.Common.{◌≡◌, ◌++◌, drop}
use Rattle.std.specs.Prelude.{map}
use Rattle.cc2_rustc.specs.Asking.{shown_asking, true_values}
use Rattle.cc2_rustc.specs.Printed.{atoms_of}
use Rattle.cc2_rustc.proofs.asking.true_values.Given as goal

abbrev pub invariant-loop-asked : goal.invariant-loop-asked
invariant-loop-asked g l =
    map (λ v. v.now) l.values.items
    ++ true_values (atoms_of l.set) (map shown_asking (drop l.asked-index l.asking))
    ≡ true_values (atoms_of l.set) (map shown_asking l.asking)
