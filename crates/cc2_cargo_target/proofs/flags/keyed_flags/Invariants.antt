use Rattle.std.proofs.Common.{◌≡◌, drop, map, string_bytes}
use Rattle.cc2_cargo.specs.Raw.{raw_members_at}
use Rattle.cc2_cargo_target.specs.Flags.{and_those, keyed_flags}
use Rattle.cc2_cargo_target.proofs.flags.keyed_flags.Given as goal

-- the flags of all keys are those so far, and those of the keys left
abbrev pub invariant-loop-key : goal.invariant-loop-key
invariant-loop-key l =
    keyed_flags (raw_members_at l.sources.settings.now) l.sources.machine.now (map (λ k. k.now) l.keys)
    ≡ and_those (map string_bytes l.flags.items)
    (keyed_flags (raw_members_at l.sources.settings.now) l.sources.machine.now (map (λ k. k.now) (drop l.key-index l.keys)))
