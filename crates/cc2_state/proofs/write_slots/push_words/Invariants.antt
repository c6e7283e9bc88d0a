use Rattle.std.proofs.Common.{take}
use Rattle.cc2_value.specs.Values.{words_of}
use Rattle.cc2_ask.specs.Written.{AreAppended}
use Rattle.cc2_state.specs.State.{word_front}
use Rattle.cc2_state.proofs.write_slots.push_words.Given as goal

abbrev pub invariant-loop-value : goal.invariant-loop-value
invariant-loop-value l =
    AreAppended word_front (words_of (take l.value-index l.values)) l.initial.out.items l.out.items
