use Rattle.std.proofs.Common.{[], ◌∷◌, map, refl}
use Rattle.std.proofs.lemmas.Result.{err_from_is_err_and}
use Rattle.cc2_cargo.specs.Raw.{raw_members_at}
use Rattle.cc2_cargo_settings.specs.Changes.{change_of, changes_at, changes_then}
use Rattle.cc2_cargo_settings.specs.Named.{below_view, named_table_view, row_below, rows_of_name}
use Rattle.cc2_cargo_settings.proofs.Collecting.{next_in, refused_in}
use Rattle.cc2_cargo_settings.proofs.named.with_name.Goals as goal

pub returns-in_err-changes : goal.returns-in_err-changes
returns-in_err-changes c =
    let look = raw_members_at c.args.sources.settings.now in
    let machine = c.args.sources.machine.now in
    let asked = map (λ k. k.now) c.args.asked.now in
    let row = row_below c.args.named.table.now c.args.name.now in
    let p = err_from_is_err_and c.from_residual.result c.from_residual.ensures.1 in
    rw (p.1, p.2)
    (refused_in look machine asked (λ bs. map row (map below_view bs)) (λ b. row (below_view b) ∷ []) (λ b bs. refl) c.args.named.below.now c.loop-below.below-index _
    (map change_of c.loop-below.changes.items)
    (changes_then (map change_of c.args.changes.items) (changes_at look machine asked (rows_of_name (named_table_view c.args.named) c.args.name.now)))
    c.in_err-changes.field-0.0 c.loop-below-test.true c.in_err-changes.ensures c.loop-below.invariant)

pub loop-below-preserved : goal.loop-below-preserved
loop-below-preserved c =
    let look = raw_members_at c.args.sources.settings.now in
    let machine = c.args.sources.machine.now in
    let asked = map (λ k. k.now) c.args.asked.now in
    let row = row_below c.args.named.table.now c.args.name.now in
    next_in look machine asked (λ bs. map row (map below_view bs)) (λ b. row (below_view b) ∷ []) (λ b bs. refl) c.args.named.below.now c.loop-below.below-index _
    (map change_of c.loop-below.changes.items) (map change_of c.in_ok-changes.changes.items)
    (changes_then (map change_of c.args.changes.items) (changes_at look machine asked (rows_of_name (named_table_view c.args.named) c.args.name.now)))
    c.loop-below-test.true c.in_ok-changes.ensures c.loop-below.invariant
