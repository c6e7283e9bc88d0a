use Rattle.std.proofs.Common.{◌≡◌, ◌-◌}
use Rattle.cc2_value.specs.Values.{words_of}
use Rattle.cc2_ask.specs.Written.{many_at}
use Rattle.cc2_ask.proofs.Written.{after}
use Rattle.cc2_state.specs.State.{word_front}
use Rattle.cc2_state.proofs.read_slots.so_many_words.Given as goal

abbrev pub invariant-loop : goal.invariant-loop
invariant-loop l =
    after (words_of l.words.items) (many_at word_front (l.count - l.counter) l.reader.rest.now)
    ≡ many_at word_front l.count l.initial.reader.rest.now
