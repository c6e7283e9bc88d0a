use Rattle.std.proofs.Common.{◌++◌, List, ℕ, String, Global, map, string_bytes, sym, subst}
use Rattle.cc2_ask.specs.Needs.{AreListed, AreNeedsOf, need_view}
use Rattle.cc2_ask.proofs.Listed.{front_listed}
use Rattle.cc2_ask.proofs.needs.needs_for.Goals as goal

pub returns-then-not-is_empty-clause-listed : goal.returns-then-not-is_empty-clause-listed
returns-then-not-is_empty-clause-listed c =
    let walked = map string_bytes c.in_ok-walked.walked.items in
    let others = map string_bytes c.args.others.now in
    subst (λ (paths : List (List ℕ)). AreNeedsOf (paths ++ others) (map need_view c.in_ok-contents.contents.items))
    c.in_ok-walked.ensures
    (c.in_ok-contents.ensures.listed (walked ++ others)
    (subst (λ (qs : List (String Global)). AreListed (walked ++ others) (map string_bytes qs)) (sym c.as_slice.ensures.value)
    (front_listed walked others)))
