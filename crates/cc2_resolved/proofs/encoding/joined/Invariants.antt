use Rattle.std.proofs.Common.{◌≡◌, take, string_bytes}
use Rattle.cc2_resolved.specs.Texts.{texts_of}
use Rattle.cc2_resolved.specs.Encodings.{separator_byte, encoding}
use Rattle.cc2_resolved.proofs.encoding.joined.Given as goal

abbrev pub invariant-loop-flag : goal.invariant-loop-flag
invariant-loop-flag l = string_bytes l.text ≡ encoding (separator_byte l.separator) (texts_of (take l.flag-index l.flags))
