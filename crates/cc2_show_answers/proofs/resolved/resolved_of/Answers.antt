use Rattle.std.proofs.Common.{ap, map, subst, sym}
use Rattle.serde_json.specs.View.{view}
use Rattle.cc2_cli.specs.ShowTasks.{request_view}
use Rattle.cargo_config2.specs.Config.{shown}
use Rattle.cc2_json.specs.Reader.{IsJsonOfLook}
use Rattle.cc2_json.specs.declared.form.Form.{Form}
use Rattle.cc2_resolved_json.specs.Plain.{plain_at}
use Rattle.cc2_show_answers.specs.ToldAnswers.{written}
use Rattle.cc2_show_answers.specs.ToldRuns.{form_of}
use Rattle.cc2_show_answers.proofs.Tells.{of_look}
use Rattle.cc2_show_answers.proofs.resolved.resolved_of.Goals as goal

pub returns-in-Ok : goal.returns-in-Ok
returns-in-Ok c plain =
    let m = plain_at (shown c.args.config.now) in
    of_look (request_view c.args.request) (map (λ p. p.now) c.args.pieces.now) m (view c.in-Ok.json) (written c.shown_in.result)
    (subst (λ (form : Form). IsJsonOfLook form m (view c.in-Ok.json)) (sym (ap form_of plain)) c.in-Ok.ensures.json) c.shown_in.ensures
