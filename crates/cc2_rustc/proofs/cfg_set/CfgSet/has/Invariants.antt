use Rattle.std.proofs.Common.{◌≡◌, drop}
use Rattle.std.specs.Prelude.{map}
use Rattle.cc2_cfg.specs.Table.{atom_of}
use Rattle.cc2_rustc.specs.Printed.{atom_of_printed, atoms_of}
use Rattle.cc2_rustc.specs.Holds.{has}
use Rattle.cc2_rustc.proofs.cfg_set.CfgSet.has.Given as goal

abbrev pub invariant-loop-printed : goal.invariant-loop-printed
invariant-loop-printed l =
    has (map atom_of_printed (drop l.printed-index l.printed-items)) (atom_of l.predicate)
    ≡ has (atoms_of l.self) (atom_of l.predicate)
