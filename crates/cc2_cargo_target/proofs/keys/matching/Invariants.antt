use Rattle.std.proofs.Common.{drop, map}
use Rattle.cc2_rustc.specs.Printed.{atoms_of}
use Rattle.cc2_cargo_target.proofs.Matching.{AreFound}
use Rattle.cc2_cargo_target.proofs.keys.matching.Given as goal

abbrev pub invariant-loop-key : goal.invariant-loop-key
invariant-loop-key l = AreFound (atoms_of l.set) l.keys (map (λ k. k.now) l.found.items) (drop l.key-index l.keys)
