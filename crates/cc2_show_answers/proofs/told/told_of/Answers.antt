use Rattle.std.proofs.Common.{map, refl, subst, inr}
use Rattle.serde_json.specs.View.{view}
use Rattle.cc2_de.specs.Config.{config_at}
use Rattle.cc2_json.specs.Reader.{IsJsonOfLook}
use Rattle.cc2_json.specs.declared.form.Form.{Form}
use Rattle.cc2_cli.specs.ShowTasks.{request_view}
use Rattle.cc2_show_answers.specs.ToldAnswers.{written}
use Rattle.cc2_show_answers.proofs.Tells.{of_look}
use Rattle.cc2_show_answers.proofs.told.told_of.Goals as goal

pub returns-in-Ok : goal.returns-in-Ok
returns-in-Ok c =
    of_look (request_view c.args.request) (map (λ p. p.now) c.args.pieces.now) (config_at c.args.config) (view c.in-Ok.json) (written c.shown_in-told.result)
    (subst (λ (form : Form). IsJsonOfLook form (config_at c.args.config) (view c.in-Ok.json)) c.form_of.ensures c.in-Ok.ensures.json) c.shown_in-told.ensures

pub returns-in-Err : goal.returns-in-Err
returns-in-Err c = inr (record { out = c.answer_of.ensures.0; err = refl; status = c.answer_of.ensures.1 })
