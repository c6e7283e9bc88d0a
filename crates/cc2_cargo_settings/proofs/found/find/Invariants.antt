use Rattle.std.proofs.Common.{◌≡◌, length, map}
use Rattle.cc2_cargo.specs.Raw.{raw_members_at}
use Rattle.cc2_cargo_settings.specs.Found.{lookup_at}
use Rattle.cc2_cargo_settings.proofs.found.find.Given as goal

-- what is left of the path, from the table that was reached
abbrev pub invariant-keys : goal.invariant-keys
invariant-keys l =
    lookup_at (raw_members_at l.table) (map (λ k. k.now) l.left) ≡ lookup_at (raw_members_at l.fn.settings) (map (λ k. k.now) l.fn.path)

abbrev pub decreases-keys : goal.decreases-keys
decreases-keys l = length l.left
