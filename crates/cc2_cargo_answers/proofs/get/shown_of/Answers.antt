use Rattle.std.proofs.Common.{⊎_elim, false, inl, inr, refl, subst}
use Rattle.serde_json.specs.View.{view}
use Rattle.cc2_json.specs.declared.form.Form.{Form}
use Rattle.cc2_cargo.specs.Raw.{raw_members_at}
use Rattle.cc2_cargo_answers.specs.RawJson.{IsJson, as_table}
use Rattle.cc2_cargo_answers.proofs.get.shown_of.Goals as goal

pub returns-in-Ok : goal.returns-in-Ok
returns-in-Ok c =
    let look = raw_members_at c.args.settings.now in
    let json = view c.in-Ok.json in
    let is = subst (λ (form : Form). IsJson form false (as_table look) json) c.form_of.ensures c.in-Ok.ensures.json in
    ⊎_elim (λ shown. inl (json, is, shown)) (λ refused. inr refused) (c.shown_in-told.ensures c.in-Ok.ensures.free)

pub returns-in-Err : goal.returns-in-Err
returns-in-Err c = inr (record { out = c.answer_of.ensures.0; err = refl; status = c.answer_of.ensures.1 })
