use Rattle.std.proofs.Common.{◌≡◌, ◌∷◌, arith, length, subst}
use Rattle.std.proofs.lemmas.List.{length-map}
use Rattle.std.proofs.lemmas.Result.{on_ok_weaker}
use Rattle.cc2_ask.proofs.Written.{both, listed, one_first}
use Rattle.cc2_ask.specs.Fields.{number_at}
use Rattle.cc2_ask.specs.Written.{byte_at, listed_at, IsAppended}
use Rattle.cc2_value.specs.Values.{word_of, words_of}
use Rattle.cc2_state.specs.State.{word_front}
use Rattle.cc2_state.proofs.write_slots.push_command.Goals as goal

pub returns : goal.returns
returns c =
    let others = c.args.others.now in
    let first = word_of c.args.first.now in
    let was = c.args.out.now.items in
    let kind = c.push_kind.new.out.items in
    let number = c.push_number.new.out.items in
    let one = c.push_word.new.out.items in
    let all = c.push_words.new.out.items in
    let count : c.in-Some.count ≡ length (first ∷ words_of others) = omega (arith, c.in-Some.ensures, length-map others word_of) in
    on_ok_weaker c.push_words.result
    (λ are. both byte_at (listed_at word_front) c.args.kind (first ∷ words_of others) was kind all c.in_ok-push_kind.ensures
    (listed word_front (first ∷ words_of others) kind number all
    (subst (λ n. IsAppended number_at n kind number) count c.in_ok-push_number.ensures.read)
    (one_first word_front first (words_of others) number one all c.in_ok-push_word.ensures are))) c.push_words.ensures
