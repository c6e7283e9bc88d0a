use Rattle.std.proofs.Common.{◌≡◌, drop, flat_map, map}
use Rattle.cc2_cargo.specs.Raw.{raw_members_at}
use Rattle.cc2_cargo_settings.specs.Changes.{change_of, changes_at, changes_then}
use Rattle.cc2_cargo_settings.specs.Named.{named_table_view, rows_of_name}
use Rattle.cc2_cargo_settings.proofs.named.with_names_always.Given as goal

-- the changes so far, and those at the names left
abbrev pub invariant-loop-name : goal.invariant-loop-name
invariant-loop-name l =
    let look = raw_members_at l.fn.sources.settings.now in
    let machine = l.fn.sources.machine.now in
    let asked = map (λ k. k.now) l.fn.asked in
    let rows = rows_of_name (named_table_view l.fn.named) in
    let names = l.fn.named.always.now in
    changes_then (map change_of l.changes.items) (changes_at look machine asked (flat_map rows (map (λ n. n.now) (drop l.name-index names))))
    ≡ changes_then (map change_of l.fn.changes.items) (changes_at look machine asked (flat_map rows (map (λ n. n.now) names)))
