use Rattle.std.proofs.Common.{◌≡◌, ◌-◌, ◌+◌, suc, [], ◌∷◌, arith, ap, ◌∙◌}
use Rattle.std.proofs.lemmas.List.{map-append}
use Rattle.cc2_ask.specs.Written.{many_at}
use Rattle.cc2_ask.proofs.Written.{after, taken_one}
use Rattle.cc2_value.specs.Values.{word_of, words_of}
use Rattle.cc2_state.specs.State.{word_front}
use Rattle.cc2_state.proofs.read_slots.so_many_words.Goals as goal

pub loop-preserved : goal.loop-preserved
loop-preserved c =
    let n = c.args.count - (c.loop.counter + 1) in
    let taken = c.loop.words.items in
    let word = c.in_ok-word.field-0 in
    let bytes = c.loop.reader.rest.now in
    let rest = c.word.new.reader.rest.now in
    let left : suc n ≡ c.args.count - c.loop.counter = omega (arith, c.loop-test.true) in
    ap (λ words. after words (many_at word_front n rest)) (ap words_of c.in_ok-push.ensures.items ∙ map-append word_of taken (word ∷ []))
    ∙ taken_one word_front n (words_of taken) bytes rest (word_of word) c.in_ok-word.ensures
    ∙ ap (λ k. after (words_of taken) (many_at word_front k bytes)) left
    ∙ c.loop.invariant
