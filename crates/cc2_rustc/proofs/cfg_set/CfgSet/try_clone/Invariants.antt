use Rattle.std.proofs.Common.{◌≡◌, map, take}
use Rattle.cc2_rustc.specs.Printed.{atom_of_printed}
use Rattle.cc2_rustc.proofs.cfg_set.CfgSet.try_clone.Given as goal

abbrev pub invariant-loop-line : goal.invariant-loop-line
invariant-loop-line l =
    map atom_of_printed l.printed.items ≡ map atom_of_printed (take l.line-index l.line-items)
