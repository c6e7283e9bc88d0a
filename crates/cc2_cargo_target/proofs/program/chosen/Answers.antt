use Rattle.std.proofs.Common.{◌∷◌, [], map, codes, sym, ap, ◌∙◌}
use Rattle.cc2_cargo.specs.Raw.{raw_members_at}
use Rattle.cc2_cargo_settings.specs.Found.{is_found, lookup_at}
use Rattle.cc2_cargo_target.proofs.Choosing.{none_chosen}
use Rattle.cc2_cargo_target.proofs.program.chosen.Goals as goal

pub returns-then-not-is_any_inside : goal.returns-then-not-is_any_inside
returns-then-not-is_any_inside c =
    let look = raw_members_at c.args.sources.settings.now in
    none_chosen look c.args.sources.machine.now c.args.program
    (λ k. ap (λ what. is_found (lookup_at look (codes "target" ∷ (k ∷ (what ∷ []))))) (sym c.program_key.ensures)
    ∙ c.is_any_inside.ensures c.if-not-is_any_inside.true k)
    (map (λ k. k.now) c.args.matching.now)
