use Rattle.std.proofs.Common.{[], ◌∷◌, map, refl}
use Rattle.std.proofs.lemmas.Result.{err_from_is_err_and}
use Rattle.cc2_cargo.specs.Raw.{raw_members_at}
use Rattle.cc2_cargo_settings.specs.Changes.{change_of, changes_at, changes_then}
use Rattle.cc2_cargo_settings.specs.Settings.{row_of}
use Rattle.cc2_cargo_settings.proofs.Collecting.{next_in, refused_in}
use Rattle.cc2_cargo_settings.proofs.change.with_settings.Goals as goal

pub returns-in_err-changes : goal.returns-in_err-changes
returns-in_err-changes c =
    let look = raw_members_at c.args.sources.settings.now in
    let machine = c.args.sources.machine.now in
    let asked = map (λ k. k.now) c.args.asked.now in
    let all = changes_then (map change_of c.args.changes.items) (changes_at look machine asked (map row_of c.args.settings.now)) in
    let p = err_from_is_err_and c.from_residual.result c.from_residual.ensures.1 in
    rw (p.1, p.2)
    (refused_in look machine asked (map row_of) (λ s. row_of s ∷ []) (λ s ss. refl) c.args.settings.now c.loop-setting.setting-index _
    (map change_of c.loop-setting.changes.items) all c.in_err-changes.field-0.0 c.loop-setting-test.true c.in_err-changes.ensures c.loop-setting.invariant)

pub loop-setting-preserved : goal.loop-setting-preserved
loop-setting-preserved c =
    let look = raw_members_at c.args.sources.settings.now in
    let machine = c.args.sources.machine.now in
    let asked = map (λ k. k.now) c.args.asked.now in
    next_in look machine asked (map row_of) (λ s. row_of s ∷ []) (λ s ss. refl) c.args.settings.now c.loop-setting.setting-index _
    (map change_of c.loop-setting.changes.items) (map change_of c.in_ok-changes.changes.items)
    (changes_then (map change_of c.args.changes.items) (changes_at look machine asked (map row_of c.args.settings.now)))
    c.loop-setting-test.true c.in_ok-changes.ensures c.loop-setting.invariant
