use Rattle.std.proofs.Common.{◌≡◌, false, [], ◌∷◌, ◌++◌, codes, flat_map, map, refl, sym, ap, subst, ◌∙◌}
use Rattle.std.proofs.lemmas.Result.{err_from_is_err_and}
use Rattle.cc2_cargo.specs.Raw.{raw_members_at}
use Rattle.cc2_cargo_settings.specs.Changes.{change_of, changes_at, changes_then}
use Rattle.cc2_cargo_settings.specs.Named.{name_asked, named_table_view, names_set, rows_of_name}
use Rattle.cc2_cargo_settings.proofs.Collecting.{in_two, none_of_others, nothing_more, then_others}
use Rattle.cc2_cargo_settings.proofs.Unset.{none_of_table}
use Rattle.cc2_cargo_settings.specs.Names.{key_variable}
use Rattle.cc2_cargo_settings.specs.Variables.{is_any_below}
use Rattle.cc2_cargo_settings.proofs.named.with_table.Goals as goal

pub returns-in_err-changes : goal.returns-in_err-changes
returns-in_err-changes c =
    let settings = c.args.sources.settings.now in
    let look = raw_members_at settings in
    let machine = c.args.sources.machine.now in
    let asked = map (λ k. k.now) c.args.asked.now in
    let rows = rows_of_name (named_table_view c.args.named) in
    let always = flat_map rows (map (λ n. n.now) c.args.named.always.now) in
    let set = flat_map rows (names_set settings c.args.named.table.now) in
    let named = flat_map rows (name_asked c.args.named.table.now asked) in
    let done = map change_of c.args.changes.items in
    let p = err_from_is_err_and c.from_residual.result c.from_residual.ensures.1 in
    rw (p.1, p.2)
    (none_of_others look machine asked done always (set ++ named) (changes_then done (changes_at look machine asked (always ++ (set ++ named))))
    c.in_err-changes.field-0.0 c.in_err-changes.ensures refl)

pub returns-in_err-changes-2 : goal.returns-in_err-changes-2
returns-in_err-changes-2 c =
    let settings = c.args.sources.settings.now in
    let look = raw_members_at settings in
    let machine = c.args.sources.machine.now in
    let asked = map (λ k. k.now) c.args.asked.now in
    let rows = rows_of_name (named_table_view c.args.named) in
    let always = flat_map rows (map (λ n. n.now) c.args.named.always.now) in
    let set = flat_map rows (names_set settings c.args.named.table.now) in
    let named = flat_map rows (name_asked c.args.named.table.now asked) in
    let done = map change_of c.args.changes.items in
    let now = map change_of c.in_ok-changes.changes.items in
    let all = changes_then done (changes_at look machine asked (always ++ (set ++ named))) in
    let p = err_from_is_err_and c.from_residual-in_err-changes-2.result c.from_residual-in_err-changes-2.ensures.1 in
    rw (p.1, p.2)
    (none_of_others look machine asked now set named all c.in_err-changes-2.field-0.0 c.in_err-changes-2.ensures
    (then_others look machine asked done now always (set ++ named) all c.in_ok-changes.ensures refl))

pub returns : goal.returns
returns c =
    let settings = c.args.sources.settings.now in
    let look = raw_members_at settings in
    let machine = c.args.sources.machine.now in
    let asked = map (λ k. k.now) c.args.asked.now in
    let rows = rows_of_name (named_table_view c.args.named) in
    let always = flat_map rows (map (λ n. n.now) c.args.named.always.now) in
    let set = flat_map rows (names_set settings c.args.named.table.now) in
    let named = flat_map rows (name_asked c.args.named.table.now asked) in
    let done = map change_of c.args.changes.items in
    let now = map change_of c.in_ok-changes.changes.items in
    in_two look machine asked (λ all. map change_of all.items) done now always (set ++ named) c.with_name_asked.result c.in_ok-changes.ensures
    (in_two look machine asked (λ all. map change_of all.items) now (map change_of c.in_ok-changes-2.changes.items)
    set named c.with_name_asked.result c.in_ok-changes-2.ensures c.with_name_asked.ensures)

pub returns-then-not-is_any_below : goal.returns-then-not-is_any_below
returns-then-not-is_any_below c =
    let settings = c.args.sources.settings.now in
    let look = raw_members_at settings in
    let machine = c.args.sources.machine.now in
    let asked = map (λ k. k.now) c.args.asked.now in
    let named = named_table_view c.args.named in
    let none : is_any_below machine (key_variable (named.table ∷ []) ++ codes "_") ≡ false =
    subst (λ front. is_any_below machine front ≡ false) c.requires (sym c.is_any_below.ensures ∙ c.if-not-is_any_below.true) in
    ap (changes_then (map change_of c.args.changes.items)) (none_of_table look machine asked named none settings)
    ∙ nothing_more look machine asked (map change_of c.args.changes.items)
