use Rattle.std.proofs.Common.{take}
use Rattle.cc2_value.specs.Copies.{origin_given}
use Rattle.cc2_value.proofs.Copies.{AreCopied}
use Rattle.cc2_value.proofs.try_clone.VecTryClone.copied.Given as goal

abbrev pub invariant-loop-item : goal.invariant-loop-item
invariant-loop-item g l = AreCopied g.T.TryClone.shown (origin_given l.fn.definition) (take l.item-index l.item-items) l.copies.items
