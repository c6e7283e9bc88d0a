use Rattle.std.proofs.Common.{◌≡◌, ◌++◌, List}
use Rattle.cc2_rustc.proofs.CopiedSets.{Entry, IsCopiedSoFar}
use Rattle.cc2_rustc.proofs.cfg_sets.copied_sets.Given as goal

-- the entries done are copied, and the others follow them
abbrev pub invariant-loop-name : goal.invariant-loop-name
invariant-loop-name l =
    (done : List Entry) × (l.fn.sets.entries ≡ done ++ l.name-iterator) × IsCopiedSoFar done l.copies
