use Rattle.std.proofs.Common.{◌≡◌, take, false}
use Rattle.cc2_resolved.specs.Texts.{texts_of, any_holds}
use Rattle.cc2_resolved.proofs.encoding.any_holds.Given as goal

-- no flag so far holds the byte
abbrev pub invariant-loop-flag : goal.invariant-loop-flag
invariant-loop-flag l = any_holds l.byte (texts_of (take l.flag-index l.flags)) ≡ false
