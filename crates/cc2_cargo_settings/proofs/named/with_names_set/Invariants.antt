use Rattle.std.proofs.Common.{◌≡◌, flat_map, map, string_bytes}
use Rattle.cc2_cargo.specs.Raw.{raw_members_at}
use Rattle.cc2_cargo_settings.specs.Changes.{change_of, changes_at, changes_then}
use Rattle.cc2_cargo_settings.specs.Named.{named_table_view, names_set, rows_of_name}
use Rattle.cc2_cargo_settings.proofs.named.with_names_set.Given as goal

-- the changes so far, and those at the names left
abbrev pub invariant-loop-name : goal.invariant-loop-name
invariant-loop-name l =
    let settings = l.fn.sources.settings.now in
    let look = raw_members_at settings in
    let machine = l.fn.sources.machine.now in
    let asked = map (λ k. k.now) l.fn.asked in
    let rows = rows_of_name (named_table_view l.fn.named) in
    changes_then (map change_of l.changes.items) (changes_at look machine asked (flat_map rows (map (λ e. string_bytes e.0) l.name-iterator)))
    ≡ changes_then (map change_of l.fn.changes.items) (changes_at look machine asked (flat_map rows (names_set settings l.fn.named.table.now)))
