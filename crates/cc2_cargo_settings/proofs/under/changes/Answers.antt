use Rattle.std.proofs.Common.{◌≡◌, List, Ok, [], ◌++◌, map, sym, ap, ◌∙◌, subst}
use Rattle.std.proofs.lemmas.Result.{err_from_is_err_and}
use Rattle.cc2_error.specs.Outcomes.{Gives, IsRefusal}
use Rattle.cc2_cargo.specs.Raw.{raw_members_at}
use Rattle.cc2_cargo_settings.specs.Changes.{change_of, changes_at, changes_then}
use Rattle.cc2_cargo_settings.specs.declared.change.Change.{Change}
use Rattle.cc2_cargo_settings.specs.Named.{named_rows}
use Rattle.cc2_cargo_settings.specs.Settings.{row_of, rows}
use Rattle.cc2_cargo_settings.specs.Names.{key_variable}
use Rattle.cc2_cargo_settings.proofs.Collecting.{in_two, none_first, none_of_others}
use Rattle.cc2_cargo_settings.proofs.RowNames.{all_named}
use Rattle.cc2_cargo_settings.proofs.under.changes.Goals as goal

pub with_settings-requires : goal.with_settings-requires
with_settings-requires c =
    all_named c.settings.result.now (c.settings.ensures.named ∙ ap (map (λ r. key_variable r.path)) (sym c.settings.ensures.rows))

pub returns-in_err-changes : goal.returns-in_err-changes
returns-in_err-changes c =
    let look = raw_members_at c.args.sources.settings.now in
    let machine = c.args.sources.machine.now in
    let asked = map (λ k. k.now) c.args.asked.now in
    let named = named_rows c.args.sources.settings.now (map (λ k. k.now) c.args.asked.now) in
    let p = err_from_is_err_and c.from_residual.result c.from_residual.ensures.1 in
    rw (p.1, p.2)
    (none_of_others look machine asked [] rows named (changes_at look machine asked (rows ++ named)) c.in_err-changes.field-0.0
    (subst (λ rs. IsRefusal (changes_then [] (changes_at look machine asked rs)) c.in_err-changes.field-0.0) c.settings.ensures.rows
    (subst (λ (cs : List Change). IsRefusal (changes_then (map change_of cs) (changes_at look machine asked (map row_of c.settings.result.now))) c.in_err-changes.field-0.0)
    c.new.ensures.items c.in_err-changes.ensures))
    (none_first (changes_at look machine asked (rows ++ named))))

pub returns : goal.returns
returns c =
    let look = raw_members_at c.args.sources.settings.now in
    let machine = c.args.sources.machine.now in
    let asked = map (λ k. k.now) c.args.asked.now in
    let named = named_rows c.args.sources.settings.now (map (λ k. k.now) c.args.asked.now) in
    subst (λ x. Gives (λ all. map change_of all.items) c.with_names.result x) (none_first (changes_at look machine asked (rows ++ named)))
    (in_two look machine asked (λ all. map change_of all.items) [] (map change_of c.in_ok-changes.changes.items) rows named c.with_names.result
    (subst (λ rs. changes_then [] (changes_at look machine asked rs) ≡ Ok (map change_of c.in_ok-changes.changes.items)) c.settings.ensures.rows
    (subst (λ (cs : List Change). changes_then (map change_of cs) (changes_at look machine asked (map row_of c.settings.result.now)) ≡ Ok (map change_of c.in_ok-changes.changes.items))
    c.new.ensures.items c.in_ok-changes.ensures))
    c.with_names.ensures)
