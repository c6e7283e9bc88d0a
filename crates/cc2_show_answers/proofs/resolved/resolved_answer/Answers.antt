use Rattle.std.proofs.Common.{◌⊎◌, ◌∙◌, ap, map, refl, string_bytes, subst, sym}
use Rattle.cc2_error.specs.Causes.{memory, plain, refusal_of}
use Rattle.cargo_config2.specs.Config.{shown}
use Rattle.cc2_answers.specs.Choices.{overrides_by, IsConfigUnderCause}
use Rattle.cc2_resolved_json.specs.Plain.{plain_at}
use Rattle.cc2_cli.specs.ShowTasks.{request_view}
use Rattle.cc2_cli.specs.ShowWords.{Request}
use Rattle.cc2_show_answers.specs.Resolved.{plainly, IsResolvedMap}
use Rattle.cc2_show_answers.specs.ToldAnswers.{written}
use Rattle.cc2_show_answers.specs.ToldRuns.{IsRefused, IsShown}
use Rattle.cc2_show_answers.proofs.Tells.{of_config, of_error}
use Rattle.cc2_show_answers.proofs.resolved.resolved_answer.Goals as goal

pub returns-in-Ok : goal.returns-in-Ok
returns-in-Ok g c fs told =
    let asked = request_view c.args.request in
    let pieces = map (λ p. p.now) c.args.pieces.now in
    let os = overrides_by (map string_bytes c.args.choices.now) in
    let m = plain_at (shown c.in-Ok.config) in
    let w = written c.resolved_of-told.result in
    let loaded = c.in-Ok.ensures fs told in
    let same = c.plainly.ensures in
    of_config (plainly asked) pieces (IsResolvedMap fs c.args.machine.now asked.dir os) (IsConfigUnderCause fs c.args.machine.now asked.dir os) m w
    (c.in-Ok.config, loaded.0, refl) loaded.1
    (subst (λ (r : Request). IsShown r pieces m w ⊎ IsRefused (plain memory) w) same (c.resolved_of-told.ensures (same ∙ sym (ap plainly same))))

pub returns-in-Err : goal.returns-in-Err
returns-in-Err g c fs told =
    let asked = request_view c.args.request in
    let os = overrides_by (map string_bytes c.args.choices.now) in
    of_error (plainly asked) (map (λ p. p.now) c.args.pieces.now) (IsResolvedMap fs c.args.machine.now asked.dir os)
    (IsConfigUnderCause fs c.args.machine.now asked.dir os) (refusal_of c.in-Err.error) c.refusal_answer.result (c.in-Err.ensures fs told)
    c.refusal_answer.ensures
