use Rattle.std.proofs.Common.{◌≡◌, drop, flat_map, map}
use Rattle.cc2_cargo.specs.Raw.{raw_members_at}
use Rattle.cc2_cargo_settings.specs.Changes.{change_of, changes_at, changes_then}
use Rattle.cc2_cargo_settings.specs.Named.{named_table_view, rows_of_table}
use Rattle.cc2_cargo_settings.proofs.named.with_tables.Given as goal

-- the changes so far, and those of the tables left
abbrev pub invariant-loop-named : goal.invariant-loop-named
invariant-loop-named l =
    let settings = l.fn.sources.settings.now in
    let machine = l.fn.sources.machine.now in
    let asked = map (λ k. k.now) l.fn.asked in
    let rows = rows_of_table settings (map (λ k. k.now) l.fn.asked) in
    changes_then (map change_of l.changes.items) (changes_at (raw_members_at settings) machine asked (flat_map rows (map named_table_view (drop l.named-index l.tables))))
    ≡ changes_then (map change_of l.fn.changes.items) (changes_at (raw_members_at settings) machine asked (flat_map rows (map named_table_view l.tables)))
