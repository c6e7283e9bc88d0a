use Rattle.std.proofs.Common.{ℕ, List, map, option_map, sym, ap, subst, ◌∙◌}
use Rattle.toml.specs.Data.{integer}
use Rattle.cc2_error.specs.Outcomes.{Gives}
use Rattle.cc2_cargo.specs.Raw.{raw_members_at}
use Rattle.cc2_cargo_settings.specs.Scalars.{if_fits, number_of_data, number_of_text, scalar_at, scalar_view}
use Rattle.cc2_cargo_settings.specs.Values.{on_ok}
use Rattle.cc2_cargo_settings.specs.Variables.{given}
use Rattle.cc2_cargo_settings.proofs.scalar.number.Goals as goal

pub returns : goal.returns
returns c =
    let look = raw_members_at c.args.sources.settings.now in
    let machine = c.args.sources.machine.now in
    let path = map (λ k. k.now) c.args.path.now in
    let name = c.args.name.now in
    let read = λ (must : List ℕ). scalar_at look machine number_of_data number_of_text must path name in
    let view = option_map (scalar_view integer) in
    let fits = if_fits path name c.args.width in
    subst (λ x. Gives view c.if_fits.result (on_ok (fits (given machine name)) x)) (sym (ap read (sym c.wanted.ensures) ∙ c.in_ok-set.ensures))
    (subst (λ g. Gives view c.if_fits.result (fits g (view c.in_ok-set.set))) c.given_by.ensures c.if_fits.ensures)
