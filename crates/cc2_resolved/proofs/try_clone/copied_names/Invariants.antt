use Rattle.std.proofs.Common.{◌≡◌, ◌++◌, List, String, Global}
use Rattle.cc2_resolved.proofs.ByName.{AreDone}
use Rattle.cc2_resolved.proofs.Copying.{IsSameMember}
use Rattle.cc2_resolved.proofs.try_clone.copied_names.Given as goal

-- the entries done are copied, and the others follow them
abbrev pub invariant-loop-key : goal.invariant-loop-key
invariant-loop-key g l =
    (done : List (String Global × _)) × (l.fn.map.entries ≡ done ++ l.key-iterator) × AreDone (IsSameMember g.V.TryClone.member) done l.copies
