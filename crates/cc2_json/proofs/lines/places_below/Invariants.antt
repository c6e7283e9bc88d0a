use Rattle.std.proofs.Common.{◌≡◌, ◌++◌, map}
use Rattle.serde_json.specs.View.{members_view}
use Rattle.cc2_json.specs.TomlPlaces.{below_of, place_view}
use Rattle.cc2_json.proofs.lines.places_below.Given as goal

abbrev pub invariant-loop-name : goal.invariant-loop-name
invariant-loop-name l =
    map place_view l.below.items ++ below_of l.key (members_view l.name-iterator)
    ≡ below_of l.fn.key (members_view l.members.entries)
