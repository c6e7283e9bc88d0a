use Rattle.std.proofs.Common.{◌⊎◌, IfErr, IfOk, map, string_bytes, sym, subst}
use Rattle.cc2_error.specs.Causes.{refusal_of}
use Rattle.cc2_error.specs.Outcomes.{IsWantOfMemory}
use Rattle.cc2_answers.specs.Choices.{overrides_by}
use Rattle.cc2_cli.specs.ShowTasks.{request_view, stage_view}
use Rattle.cc2_cli.specs.declared.show.Stage.{Stage}
use Rattle.cc2_show_answers.specs.Sources.{IsCauseAmong, above}
use Rattle.cc2_show_answers.specs.Unmerged.{AreBlocks}
use Rattle.cc2_show_answers.proofs.unmerged.text_above.Goals as goal

pub returns-in-Resolved-clause-ok : goal.returns-in-Resolved-clause-ok
returns-in-Resolved-clause-ok g c fs told =
    subst (λ (stage : Stage). IfOk c.text_of_set.result (λ text. AreBlocks fs c.args.machine.now (overrides_by (map string_bytes c.args.choices.now))
    (request_view c.args.request) (map (λ p. p.now) c.args.pieces.now) (above (stage_view stage)) text.items)) (sym c.in-Resolved.is) (c.text_of_set.ensures.ok fs told)

pub returns-in-Resolved-clause-refused : goal.returns-in-Resolved-clause-refused
returns-in-Resolved-clause-refused g c fs told =
    subst (λ (stage : Stage). IfErr c.text_of_set.result (λ e. IsWantOfMemory e
    ⊎ IsCauseAmong fs c.args.machine.now c.args.request.dir.now (overrides_by (map string_bytes c.args.choices.now)) (above (stage_view stage)) (refusal_of e)))
    (sym c.in-Resolved.is) (c.text_of_set.ensures.refused fs told)

pub returns-in-Environment-clause-ok : goal.returns-in-Environment-clause-ok
returns-in-Environment-clause-ok g c fs told =
    subst (λ (stage : Stage). IfOk c.text_of_set-in-Environment.result (λ text. AreBlocks fs c.args.machine.now (overrides_by (map string_bytes c.args.choices.now))
    (request_view c.args.request) (map (λ p. p.now) c.args.pieces.now) (above (stage_view stage)) text.items)) (sym c.in-Environment.is) (c.text_of_set-in-Environment.ensures.ok fs told)

pub returns-in-Environment-clause-refused : goal.returns-in-Environment-clause-refused
returns-in-Environment-clause-refused g c fs told =
    subst (λ (stage : Stage). IfErr c.text_of_set-in-Environment.result (λ e. IsWantOfMemory e
    ⊎ IsCauseAmong fs c.args.machine.now c.args.request.dir.now (overrides_by (map string_bytes c.args.choices.now)) (above (stage_view stage)) (refusal_of e)))
    (sym c.in-Environment.is) (c.text_of_set-in-Environment.ensures.refused fs told)
