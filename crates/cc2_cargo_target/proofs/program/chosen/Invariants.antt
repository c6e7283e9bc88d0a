use Rattle.std.proofs.Common.{◌≡◌, None, drop, map}
use Rattle.cc2_cargo.specs.Raw.{raw_members_at}
use Rattle.cc2_cargo_target.specs.Chosen.{chosen_from}
use Rattle.cc2_cargo_target.specs.Shown.{choice_view}
use Rattle.cc2_cargo_target.proofs.program.chosen.Given as goal

-- the choice among all keys is that among the keys left, after the choice so far
abbrev pub invariant-loop-key : goal.invariant-loop-key
invariant-loop-key l =
    chosen_from (raw_members_at l.sources.settings.now) l.sources.machine.now l.program None (map (λ k. k.now) l.matching)
    ≡ chosen_from (raw_members_at l.sources.settings.now) l.sources.machine.now l.program (choice_view l.choice) (map (λ k. k.now) (drop l.key-index l.matching))
