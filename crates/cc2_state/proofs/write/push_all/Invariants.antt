use Rattle.std.proofs.Common.{map, string_bytes, take}
use Rattle.cc2_ask.specs.Fields.{text_at}
use Rattle.cc2_ask.specs.Written.{AreAppended}
use Rattle.cc2_state.proofs.write.push_all.Given as goal

abbrev pub invariant-loop-text : goal.invariant-loop-text
invariant-loop-text l = AreAppended text_at (map string_bytes (take l.text-index l.texts)) l.initial.out.items l.out.items
