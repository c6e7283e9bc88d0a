use Rattle.std.proofs.Common.{◌≡◌, [], arith, map, sym, ap, ◌∙◌}
use Rattle.std.proofs.lemmas.Grind.{common_steps}
use Rattle.std.specs.Vec.Iter.{into_iter_items}
use Rattle.cc2_cargo.specs.Raw.{Path, raw_members_at}
use Rattle.cc2_cargo_settings.specs.Changes.{change_of}
use Rattle.cc2_cargo_settings.specs.Under.{under_at}
use Rattle.cc2_cargo_settings.proofs.under.changed.Goals as goal

pub returns-clause-ok : goal.returns-clause-ok
returns-clause-ok c =
    let look = raw_members_at c.loop-change.settings in
    let empty : into_iter_items c.loop-change.change-iterator ≡ [] = grind (arith, common_steps) in
    let each : (p : Path) → look p ≡ under_at (map change_of c.args.changes.items) (raw_members_at c.args.settings) p = λ p.
    ap (λ cs. under_at (map change_of cs) look p) (sym empty) ∙ c.loop-change.invariant p in
    λ i p. each p i
