use Rattle.std.proofs.Common.{◌≡◌, drop, map}
use Rattle.cc2_cargo.specs.Raw.{raw_members_at}
use Rattle.cc2_cargo_settings.specs.Changes.{change_of, changes_at, changes_then}
use Rattle.cc2_cargo_settings.specs.Settings.{row_of}
use Rattle.cc2_cargo_settings.proofs.change.with_settings.Given as goal

-- the changes so far, and those of the settings left
abbrev pub invariant-loop-setting : goal.invariant-loop-setting
invariant-loop-setting l =
    let look = raw_members_at l.fn.sources.settings.now in
    let machine = l.fn.sources.machine.now in
    let asked = map (λ k. k.now) l.fn.asked in
    changes_then (map change_of l.changes.items) (changes_at look machine asked (map row_of (drop l.setting-index l.settings)))
    ≡ changes_then (map change_of l.fn.changes.items) (changes_at look machine asked (map row_of l.settings))
