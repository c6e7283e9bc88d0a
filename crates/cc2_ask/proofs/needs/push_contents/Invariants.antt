use Rattle.std.proofs.Common.{List, ℕ, map, string_bytes}
use Rattle.cc2_ask.specs.Needs.{AreListed, AreNeedsOf, need_view}
use Rattle.cc2_ask.specs.Replies.{AreNew}
use Rattle.cc2_ask.specs.Views.{given_view}
use Rattle.cc2_ask.proofs.needs.push_contents.Given as goal

-- where all were new, or listed, at first, all are
abbrev pub invariant-loop-path : goal.invariant-loop-path
invariant-loop-path l = record {
  new : AreNew (given_view l.given) (map need_view l.initial.needs.items)
      → AreNew (given_view l.given) (map need_view l.needs.items);
  listed : (all : List (List ℕ)) → AreListed all (map string_bytes l.paths)
      → AreNeedsOf all (map need_view l.initial.needs.items)
      → AreNeedsOf all (map need_view l.needs.items);
}
