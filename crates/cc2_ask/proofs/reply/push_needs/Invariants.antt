use Rattle.std.proofs.Common.{◌≡◌, ◌++◌, map, drop}
use Rattle.cc2_ask.specs.Needs.{need_view}
use Rattle.cc2_ask.specs.Replies.{needs_bytes}
use Rattle.cc2_ask.proofs.reply.push_needs.Given as goal

abbrev pub invariant-loop-need : goal.invariant-loop-need
invariant-loop-need l =
    l.out.items ++ needs_bytes (map need_view (drop l.need-index l.needs))
    ≡ l.initial.out.items ++ needs_bytes (map need_view l.needs)
