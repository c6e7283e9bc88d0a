use Rattle.std.proofs.Common.{◌≡◌}
use Rattle.std.specs.Prelude.{map}
use Rattle.cc2_rustc.specs.Printed.{atom_of_printed}
use Rattle.cc2_rustc.proofs.Listed.{said}
use Rattle.cc2_rustc.proofs.cfg_set.CfgSet.read.Given as goal

abbrev pub invariant-loop-line : goal.invariant-loop-line
invariant-loop-line l = map atom_of_printed l.printed.items ≡ said l.yielded
