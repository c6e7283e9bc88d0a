use Rattle.std.proofs.Common.{◌≡◌, drop, map}
use Rattle.cc2_cargo.specs.Raw.{raw_members_at}
use Rattle.cc2_cargo_settings.specs.EnvVariables.{reserved_entry}
use Rattle.cc2_cargo_settings.proofs.env.reserved_entry.Given as goal

-- the first of all is the first of those that are left
abbrev pub invariant-loop-name : goal.invariant-loop-name
invariant-loop-name l =
    reserved_entry (raw_members_at l.settings) (map (λ k. k.now) (drop l.name-index l.names))
    ≡ reserved_entry (raw_members_at l.settings) (map (λ k. k.now) l.names)
