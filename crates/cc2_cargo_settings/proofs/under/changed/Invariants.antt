use Rattle.std.proofs.Common.{◌≡◌, map}
use Rattle.std.specs.Vec.Iter.{into_iter_items}
use Rattle.cc2_cargo.specs.Raw.{Path, raw_members_at}
use Rattle.cc2_cargo_settings.specs.Changes.{change_of}
use Rattle.cc2_cargo_settings.specs.Under.{under_at}
use Rattle.cc2_cargo_settings.proofs.under.changed.Given as goal

-- the changes left make of the settings reached what all of them make of those at first
abbrev pub invariant-loop-change : goal.invariant-loop-change
invariant-loop-change l =
    (p : Path) → under_at (map change_of (into_iter_items l.change-iterator)) (raw_members_at l.settings) p
    ≡ under_at (map change_of l.fn.changes.items) (raw_members_at l.fn.settings) p
