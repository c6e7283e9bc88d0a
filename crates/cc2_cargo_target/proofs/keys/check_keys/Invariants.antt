use Rattle.std.proofs.Common.{◌≡◌, drop, map}
use Rattle.cc2_cargo.specs.Raw.{raw_members_at}
use Rattle.cc2_cargo_target.specs.Keys.{keys_checked}
use Rattle.cc2_cargo_target.proofs.keys.check_keys.Given as goal

-- all keys can be read where those left can be
abbrev pub invariant-loop-key : goal.invariant-loop-key
invariant-loop-key l =
    keys_checked (raw_members_at l.sources.settings.now) l.sources.machine.now (map (λ k. k.now) l.keys)
    ≡ keys_checked (raw_members_at l.sources.settings.now) l.sources.machine.now (map (λ k. k.now) (drop l.key-index l.keys))
