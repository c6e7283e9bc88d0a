-- The machine of a request, and what its replies are.
use Rattle.std.proofs.Common.{◌≡◌, ◌≢◌, ℕ, List, [], ◌∷◌, map, false, Result, Ok, Err, IfOk, Vec, Global, string_bytes, refl, sym, subst}
use Rattle.cc2_error.specs.declared.error.NoMemory.{NoMemory}
use Rattle.cc2_cli.specs.Answers.{answer_text}
use Rattle.cc2_cli.specs.declared.answer.Answer.{Answer}
use Rattle.cc2_ask.specs.Needs.{AreNeedsOf, need_view}
use Rattle.cc2_ask.specs.Replies.{Reply, answer, AreNew}
use Rattle.cc2_ask.specs.Views.{given_view, reply_view}
use Rattle.cc2_ask.specs.declared.given.Given.{Given as CodeGiven}
use Rattle.cc2_ask.specs.declared.need.Need.{Need}
use Rattle.cc2_ask.specs.declared.reply.Reply.{Reply as CodeReply}
use Rattle.cc2_reply.specs.Asked.{askable}
use Rattle.cc2_reply.specs.Replies.{AnswersIn, AreNeeds, IsMachine, IsReplyTo, is_out_of_memory}

-- the machine of what was read has what the request gives
pub of_given : (given : CodeGiven) → IsMachine (given_view given) given.machine
of_given given = record { dir = refl; variables = refl; home = refl }

-- an answer, where memory didn't run out
pub answered_is : (given : CodeGiven) (a : Answer) (r : Result CodeReply NoMemory)
    → AnswersIn (given_view given) given.machine (answer_text a) a.status
    → IfOk r (λ reply. reply_view reply ≡ answer a.status (answer_text a))
    → IfOk r (λ reply. is_out_of_memory (answer_text a) a.status ≡ false)
    → IfOk r (λ reply. IsReplyTo (given_view given) (reply_view reply))
answered_is given a (Err e) answers is known = tt
answered_is given a (Ok reply) answers is known =
    subst (λ (r : Reply). IsReplyTo (given_view given) r) (sym is)
    (record { machine = given.machine; given = of_given given; answers = answers; known = known })

no_views : (ns : List Need) → ns ≢ [] → map need_view ns ≢ []
no_views [] some none = some refl
no_views (n ∷ ns) some none = cc

-- needs, where memory didn't run out
pub needed_are : (given : CodeGiven) (paths : List (List ℕ)) (r : Result (Vec Need Global) NoMemory)
    → paths ≡ askable (map string_bytes given.words.items) given.machine
    → IfOk r (λ needs. needs.items ≢ [])
    → IfOk r (λ needs. AreNew (given_view given) (map need_view needs.items))
    → IfOk r (λ needs. AreNeedsOf paths (map need_view needs.items))
    → IfOk r (λ needs. AreNeeds (given_view given) (map need_view needs.items))
needed_are given paths (Err e) is some new listed = tt
needed_are given paths (Ok needs) is some new listed = record {
  machine = given.machine;
  given = of_given given;
  some = no_views needs.items some;
  new = new;
  listed = subst (λ (ps : List (List ℕ)). AreNeedsOf ps (map need_view needs.items)) is listed;
}
