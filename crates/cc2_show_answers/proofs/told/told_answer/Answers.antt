use Rattle.std.proofs.Common.{map, string_bytes}
use Rattle.cc2_error.specs.Causes.{refusal_of}
use Rattle.cc2_de.specs.Config.{config_at}
use Rattle.cc2_cli.specs.ShowTasks.{request_view}
use Rattle.cc2_answers.specs.Choices.{overrides_by}
use Rattle.cc2_show_answers.specs.ToldAnswers.{written}
use Rattle.cc2_show_answers.specs.ToldRuns.{IsMapCause, IsStageMap}
use Rattle.cc2_show_answers.proofs.Tells.{of_config, of_error}
use Rattle.cc2_show_answers.proofs.told.told_answer.Goals as goal

pub returns-in-Ok : goal.returns-in-Ok
returns-in-Ok g c fs told =
    let asked = request_view c.args.request in
    let os = overrides_by (map string_bytes c.args.choices.now) in
    let loaded = c.in-Ok.ensures fs told in
    of_config asked (map (λ p. p.now) c.args.pieces.now) (IsStageMap fs c.args.machine.now asked.dir os asked.stage)
    (IsMapCause fs c.args.machine.now asked.dir os asked.stage) (config_at c.in-Ok.config) (written c.told_of.result) loaded.0 loaded.1 c.told_of.ensures

pub returns-in-Err : goal.returns-in-Err
returns-in-Err g c fs told =
    let asked = request_view c.args.request in
    let os = overrides_by (map string_bytes c.args.choices.now) in
    of_error asked (map (λ p. p.now) c.args.pieces.now) (IsStageMap fs c.args.machine.now asked.dir os asked.stage)
    (IsMapCause fs c.args.machine.now asked.dir os asked.stage) (refusal_of c.in-Err.error) c.refusal_answer.result (c.in-Err.ensures fs told)
    c.refusal_answer.ensures
