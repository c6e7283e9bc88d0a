use Rattle.std.proofs.Common.{◌≡◌, take}
use Rattle.cc2_resolved.specs.Texts.{texts_of, lent_texts}
use Rattle.cc2_resolved.proofs.pieces.copied_strs.Given as goal

abbrev pub invariant-loop-text : goal.invariant-loop-text
invariant-loop-text l = texts_of l.copies.items ≡ lent_texts (take l.text-index l.texts)
