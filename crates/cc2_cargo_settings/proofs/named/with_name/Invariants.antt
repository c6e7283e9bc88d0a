use Rattle.std.proofs.Common.{◌≡◌, drop, map}
use Rattle.cc2_cargo.specs.Raw.{raw_members_at}
use Rattle.cc2_cargo_settings.specs.Changes.{change_of, changes_at, changes_then}
use Rattle.cc2_cargo_settings.specs.Named.{below_view, named_table_view, row_below, rows_of_name}
use Rattle.cc2_cargo_settings.proofs.named.with_name.Given as goal

-- the changes so far, and those left below the name
abbrev pub invariant-loop-below : goal.invariant-loop-below
invariant-loop-below l =
    let look = raw_members_at l.fn.sources.settings.now in
    let machine = l.fn.sources.machine.now in
    let asked = map (λ k. k.now) l.fn.asked in
    let below = l.fn.named.below.now in
    changes_then (map change_of l.changes.items) (changes_at look machine asked (map (row_below l.fn.named.table.now l.fn.name) (map below_view (drop l.below-index below))))
    ≡ changes_then (map change_of l.fn.changes.items) (changes_at look machine asked (rows_of_name (named_table_view l.fn.named) l.fn.name))
