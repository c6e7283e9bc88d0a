use Rattle.std.proofs.Common.{flat_map, map, refl}
use Rattle.std.proofs.lemmas.Result.{err_from_is_err_and}
use Rattle.cc2_cargo.specs.Raw.{raw_members_at}
use Rattle.cc2_cargo_settings.specs.Changes.{change_of, changes_at, changes_then}
use Rattle.cc2_cargo_settings.specs.Named.{named_table_view, rows_of_name}
use Rattle.cc2_cargo_settings.proofs.Collecting.{next_in, refused_in}
use Rattle.cc2_cargo_settings.proofs.named.with_names_always.Goals as goal

pub returns-in_err-changes : goal.returns-in_err-changes
returns-in_err-changes c =
    let look = raw_members_at c.args.sources.settings.now in
    let machine = c.args.sources.machine.now in
    let asked = map (λ k. k.now) c.args.asked.now in
    let rows = rows_of_name (named_table_view c.args.named) in
    let p = err_from_is_err_and c.from_residual.result c.from_residual.ensures.1 in
    rw (p.1, p.2)
    (refused_in look machine asked (λ ns. flat_map rows (map (λ n. n.now) ns)) (λ n. rows n.now) (λ n ns. refl) c.args.named.always.now c.loop-name.name-index _
    (map change_of c.loop-name.changes.items)
    (changes_then (map change_of c.args.changes.items) (changes_at look machine asked (flat_map rows (map (λ n. n.now) c.args.named.always.now))))
    c.in_err-changes.field-0.0 c.loop-name-test.true c.in_err-changes.ensures c.loop-name.invariant)

pub loop-name-preserved : goal.loop-name-preserved
loop-name-preserved c =
    let look = raw_members_at c.args.sources.settings.now in
    let machine = c.args.sources.machine.now in
    let asked = map (λ k. k.now) c.args.asked.now in
    let rows = rows_of_name (named_table_view c.args.named) in
    next_in look machine asked (λ ns. flat_map rows (map (λ n. n.now) ns)) (λ n. rows n.now) (λ n ns. refl) c.args.named.always.now c.loop-name.name-index _
    (map change_of c.loop-name.changes.items) (map change_of c.in_ok-changes.changes.items)
    (changes_then (map change_of c.args.changes.items) (changes_at look machine asked (flat_map rows (map (λ n. n.now) c.args.named.always.now))))
    c.loop-name-test.true c.in_ok-changes.ensures c.loop-name.invariant
