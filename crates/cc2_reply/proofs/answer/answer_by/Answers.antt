use Rattle.std.proofs.Common.{◌≡◌, ℕ, List, Option, map, string_bytes, ap, sym, subst, ◌∙◌}
use Rattle.cc2_base.specs.Told.{Tree}
use Rattle.cc2_base.specs.ToldPrograms.{Answers}
use Rattle.cc2_base.specs.declared.machine.Machine.{Machine}
use Rattle.cc2_ask.specs.Views.{given_view}
use Rattle.cc2_reply.specs.Answered.{IsAskedAnswer, IsLoadAnswer}
use Rattle.cc2_reply.specs.Asked.{Asked, asked_in, load}
use Rattle.cc2_reply.specs.AskedViews.{asked_view}
use Rattle.cc2_reply.specs.declared.load.Answered.TheVariants.{Answer, Loaded}
use Rattle.cc2_reply.specs.declared.load.Answered.{Answered}
use Rattle.cc2_reply.specs.declared.question.Question.{Question}
use Rattle.cc2_reply.proofs.answer.answer_by.Goals as goal

pub returns-in-Get : goal.returns-in-Get
returns-in-Get g c fs answers files programs =
    let given = c.args.given.now in
    let answered = Answer c.get_answer.result in
    let state = (given_view given).state in
    let is : asked_view c.asked.result ≡ asked_in (map string_bytes given.words.items) =
    c.asked.ensures ∙ ap (λ ws. asked_in (map string_bytes ws)) c.as_slice.ensures.value in
    subst (λ (asked : Asked). IsAskedAnswer fs answers given.machine state asked answered) is
    (subst (λ (asked : Question). IsAskedAnswer fs answers given.machine state (asked_view asked) answered) (sym c.in-Get.is)
    (c.get_answer.ensures fs answers files programs))

pub returns-in-Show : goal.returns-in-Show
returns-in-Show g c fs answers files programs =
    let given = c.args.given.now in
    let answered = Answer c.show_answer.result in
    let state = (given_view given).state in
    let is : asked_view c.asked.result ≡ asked_in (map string_bytes given.words.items) =
    c.asked.ensures ∙ ap (λ ws. asked_in (map string_bytes ws)) c.as_slice.ensures.value in
    subst (λ (asked : Asked). IsAskedAnswer fs answers given.machine state asked answered) is
    (subst (λ (asked : Question). IsAskedAnswer fs answers given.machine state (asked_view asked) answered) (sym c.in-Show.is)
    (c.show_answer.ensures fs files))

pub returns-in-Several : goal.returns-in-Several
returns-in-Several g c fs answers files programs =
    let given = c.args.given.now in
    let answered = Answer c.items_answer.result in
    let state = (given_view given).state in
    let is : asked_view c.asked.result ≡ asked_in (map string_bytes given.words.items) =
    c.asked.ensures ∙ ap (λ ws. asked_in (map string_bytes ws)) c.as_slice.ensures.value in
    subst (λ (asked : Asked). IsAskedAnswer fs answers given.machine state asked answered) is
    (subst (λ (asked : Question). IsAskedAnswer fs answers given.machine state (asked_view asked) answered) (sym c.in-Several.is)
    (c.items_answer.ensures fs answers files programs))

-- what a load gives is asked by no program
loads : (fs : Tree) (answers : Answers) (machine : Machine) (state : Option (List ℕ)) (dir : List ℕ) (words : List (List ℕ)) (answered : Answered)
    → IsLoadAnswer fs machine dir words answered → IsAskedAnswer fs answers machine state (load dir words) answered
loads fs answers machine state dir words (Answer a) is = is
loads fs answers machine state dir words (Loaded cells bytes) is = is

pub returns-in-Load : goal.returns-in-Load
returns-in-Load g c fs answers files programs =
    let given = c.args.given.now in
    let answered = c.load_answer.result in
    let state = (given_view given).state in
    let is : asked_view c.asked.result ≡ asked_in (map string_bytes given.words.items) =
    c.asked.ensures ∙ ap (λ ws. asked_in (map string_bytes ws)) c.as_slice.ensures.value in
    subst (λ (asked : Asked). IsAskedAnswer fs answers given.machine state asked answered) is
    (subst (λ (asked : Question). IsAskedAnswer fs answers given.machine state (asked_view asked) answered) (sym c.in-Load.is)
    (loads fs answers given.machine state c.in-Load.dir.now (map string_bytes c.in-Load.words.now) answered (c.load_answer.ensures fs files)))
