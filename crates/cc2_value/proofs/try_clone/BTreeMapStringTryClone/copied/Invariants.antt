use Rattle.std.proofs.Common.{◌≡◌, ◌++◌, List, String, Global}
use Rattle.cc2_value.specs.Copies.{origin_given}
use Rattle.cc2_value.proofs.SortedMaps.{AreMade}
use Rattle.cc2_value.proofs.Copies.{copy_seen}
use Rattle.cc2_value.proofs.try_clone.BTreeMapStringTryClone.copied.Given as goal

-- the entries done are copied, and the others follow them
abbrev pub invariant-loop-key : goal.invariant-loop-key
invariant-loop-key g l =
    (done : List (String Global × _)) × (l.fn.self.entries ≡ done ++ l.key-iterator) × AreMade g.V.TryClone.shown (copy_seen g.V.TryClone.shown (origin_given l.fn.definition)) done l.copies.items
