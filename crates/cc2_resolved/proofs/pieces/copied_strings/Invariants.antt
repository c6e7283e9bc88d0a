use Rattle.std.proofs.Common.{◌≡◌, take}
use Rattle.cc2_resolved.specs.Texts.{texts_of}
use Rattle.cc2_resolved.proofs.pieces.copied_strings.Given as goal

abbrev pub invariant-loop-text : goal.invariant-loop-text
invariant-loop-text l = texts_of l.copies.items ≡ texts_of (take l.text-index l.texts)
