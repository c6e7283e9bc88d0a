use Rattle.std.proofs.Common.{◌≡◌, ◌++◌, flat_map, map, string_bytes, sym, ap, ◌∙◌}
use Rattle.std.proofs.lemmas.Result.{err_from_is_err_and}
use Rattle.cc2_cargo.specs.Raw.{raw_members_at}
use Rattle.cc2_cargo_settings.specs.Changes.{change_of, changes_at, changes_then}
use Rattle.cc2_cargo_settings.specs.Named.{named_table_view, names_set, rows_of_name}
use Rattle.cc2_cargo_settings.proofs.Collecting.{none_of_others, then_others}
use Rattle.cc2_cargo_settings.proofs.named.with_names_set.Goals as goal

pub returns-in_err-changes : goal.returns-in_err-changes
returns-in_err-changes c =
    let settings = c.args.sources.settings.now in
    let look = raw_members_at settings in
    let machine = c.args.sources.machine.now in
    let asked = map (λ k. k.now) c.args.asked.now in
    let rows = rows_of_name (named_table_view c.args.named) in
    let done = map change_of c.loop-name.changes.items in
    let all = changes_then (map change_of c.args.changes.items) (changes_at look machine asked (flat_map rows (names_set settings c.args.named.table.now))) in
    let left = flat_map rows (map (λ e. string_bytes e.0) c.next.new.self) in
    let whole : changes_then done (changes_at look machine asked (rows c.as_str.result.now ++ left)) ≡ all =
    ap (λ n. changes_then done (changes_at look machine asked (rows n ++ left))) c.as_str.ensures.value
    ∙ ap (λ l. changes_then done (changes_at look machine asked (flat_map rows (map (λ e. string_bytes e.0) l)))) (sym c.in-Some.ensures.steps)
    ∙ c.loop-name.invariant in
    let p = err_from_is_err_and c.from_residual.result c.from_residual.ensures.1 in
    rw (p.1, p.2) (none_of_others look machine asked done (rows c.as_str.result.now) left all c.in_err-changes.field-0.0 c.in_err-changes.ensures whole)

pub loop-name-preserved : goal.loop-name-preserved
loop-name-preserved c =
    let settings = c.args.sources.settings.now in
    let look = raw_members_at settings in
    let machine = c.args.sources.machine.now in
    let asked = map (λ k. k.now) c.args.asked.now in
    let rows = rows_of_name (named_table_view c.args.named) in
    let done = map change_of c.loop-name.changes.items in
    let all = changes_then (map change_of c.args.changes.items) (changes_at look machine asked (flat_map rows (names_set settings c.args.named.table.now))) in
    let left = flat_map rows (map (λ e. string_bytes e.0) c.next.new.self) in
    let whole : changes_then done (changes_at look machine asked (rows c.as_str.result.now ++ left)) ≡ all =
    ap (λ n. changes_then done (changes_at look machine asked (rows n ++ left))) c.as_str.ensures.value
    ∙ ap (λ l. changes_then done (changes_at look machine asked (flat_map rows (map (λ e. string_bytes e.0) l)))) (sym c.in-Some.ensures.steps)
    ∙ c.loop-name.invariant in
    then_others look machine asked done (map change_of c.in_ok-changes.changes.items) (rows c.as_str.result.now) left all c.in_ok-changes.ensures whole
