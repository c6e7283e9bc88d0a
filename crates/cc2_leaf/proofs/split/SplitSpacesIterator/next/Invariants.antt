use Rattle.std.proofs.Common.{◌≡◌, ◌≤◌}
use Rattle.cc2_leaf.specs.Pieces.{spaced_left, room_left}
use Rattle.cc2_leaf.proofs.split.SplitSpacesIterator.next.Given as goal

-- the pieces that were passed are empty
abbrev pub invariant-loop-self : goal.invariant-loop-self
invariant-loop-self l = record {
  same : spaced_left l.self.rest ≡ spaced_left l.initial.self.rest;
  within : room_left l.self.rest ≤ room_left l.initial.self.rest;
}

abbrev pub decreases-loop-self : goal.decreases-loop-self
decreases-loop-self l = room_left l.self.rest
