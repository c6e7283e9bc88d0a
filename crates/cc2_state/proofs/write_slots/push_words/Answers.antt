use Rattle.cc2_value.specs.Values.{word_of}
use Rattle.cc2_state.specs.State.{word_front}
use Rattle.cc2_state.proofs.Pushed.{item_appended}
use Rattle.cc2_state.proofs.write_slots.push_words.Goals as goal

pub loop-value-preserved : goal.loop-value-preserved
loop-value-preserved c =
    item_appended word_of word_front c.args.values.now c.loop-value.value-index c.value-item.result c.args.out.now.items c.loop-value.out.items
    c.push_word.new.out.items c.loop-value-test.true c.value-item.is c.loop-value.invariant c.in_ok-push_word.ensures
