use Rattle.std.proofs.Common.{◌≡◌, ◌++◌, List, String, Global}
use Rattle.cc2_cargo.specs.Merging.{IsRawOver}
use Rattle.cc2_cargo.specs.Places.{commands_from}
use Rattle.cc2_cargo.specs.Raw.{entries_at, raw_members_at}
use Rattle.cc2_cargo.specs.declared.raw.Raw.{Raw}
use Rattle.cc2_cargo.proofs.raw.merge.+merge.Given as goal

-- the members done are put over the weaker ones, and the others follow them
abbrev pub invariant-put_members-loop-key : goal.invariant-put_members-loop-key
invariant-put_members-loop-key l =
    (done : List (String Global × Raw)) × (l.fn.strong.entries ≡ done ++ l.key-iterator)
    × IsRawOver (commands_from l.place) (entries_at done) (raw_members_at l.fn.members) (raw_members_at l.members)
