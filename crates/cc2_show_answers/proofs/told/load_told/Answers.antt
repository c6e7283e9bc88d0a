use Rattle.std.proofs.Common.{map, string_bytes, sym, subst}
use Rattle.cc2_error.specs.Outcomes.{Answered}
use Rattle.cc2_de.specs.Config.{config_at}
use Rattle.cc2_cli.specs.ShowTasks.{stage_view}
use Rattle.cc2_cli.specs.declared.show.Stage.{Stage}
use Rattle.cc2_answers.specs.Choices.{overrides_by}
use Rattle.cc2_show_answers.specs.ToldRuns.{IsMapCause, IsStageMap}
use Rattle.cc2_show_answers.proofs.told.load_told.Goals as goal

pub returns-in-Files : goal.returns-in-Files
returns-in-Files g c fs told =
    let dir = c.args.request.dir.now in
    let os = overrides_by (map string_bytes c.args.choices.now) in
    subst (λ (stage : Stage). Answered config_at c.load_with_cwd.result (IsStageMap fs c.args.machine.now dir os (stage_view stage))
    (IsMapCause fs c.args.machine.now dir os (stage_view stage))) (sym c.in-Files.is) (c.load_with_cwd.ensures fs told)

pub returns-in-Resolved : goal.returns-in-Resolved
returns-in-Resolved g c fs told =
    let dir = c.args.request.dir.now in
    let os = overrides_by (map string_bytes c.args.choices.now) in
    subst (λ (stage : Stage). Answered config_at c.load_unresolved.result (IsStageMap fs c.args.machine.now dir os (stage_view stage))
    (IsMapCause fs c.args.machine.now dir os (stage_view stage))) (sym c.in-Resolved.is) (c.load_unresolved.ensures fs told)

pub returns-in-Environment : goal.returns-in-Environment
returns-in-Environment g c fs told =
    let dir = c.args.request.dir.now in
    let os = overrides_by (map string_bytes c.args.choices.now) in
    subst (λ (stage : Stage). Answered config_at c.load_unresolved-in-Environment.result (IsStageMap fs c.args.machine.now dir os (stage_view stage))
    (IsMapCause fs c.args.machine.now dir os (stage_view stage))) (sym c.in-Environment.is) (c.load_unresolved-in-Environment.ensures fs told)
