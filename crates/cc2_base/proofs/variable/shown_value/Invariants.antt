use Rattle.std.proofs.Common.{◌≡◌, ◌∷◌, take, flat_map, string_bytes}
use Rattle.cc2_base.specs.ShownValue.{shown_byte}
use Rattle.cc2_base.proofs.variable.shown_value.Given as goal

abbrev pub invariant-loop-byte : goal.invariant-loop-byte
invariant-loop-byte l = string_bytes l.shown ≡ 34 ∷ flat_map shown_byte (take l.byte-index l.bytes)
