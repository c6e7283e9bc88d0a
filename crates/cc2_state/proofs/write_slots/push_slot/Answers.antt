use Rattle.std.proofs.lemmas.Result.{on_ok_weaker}
use Rattle.cc2_ask.proofs.Written.{both}
use Rattle.cc2_ask.specs.Written.{byte_at, listed_at}
use Rattle.cc2_value.specs.Values.{word_of, words_of}
use Rattle.cc2_state.specs.State.{word_front}
use Rattle.cc2_state.proofs.Pushed.{items_listed}
use Rattle.cc2_state.proofs.write_slots.push_slot.Goals as goal

pub returns : goal.returns
returns c =
    let values = c.args.values.now in
    let kind = c.push_kind.new.out.items in
    let number = c.push_number.new.out.items in
    let all = c.push_words.new.out.items in
    on_ok_weaker c.push_words.result
    (λ are. both byte_at (listed_at word_front) c.args.kind (words_of values) c.args.out.now.items kind all c.in_ok-push_kind.ensures
    (items_listed word_of word_front values kind number all c.in_ok-push_number.ensures.read are)) c.push_words.ensures
