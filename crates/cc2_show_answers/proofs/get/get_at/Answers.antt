use Rattle.std.proofs.Common.{Bool, map, string_bytes, subst, sym}
use Rattle.cc2_cli.specs.Choices.{choices_of}
use Rattle.cc2_cli.specs.ShowTasks.{request_view, stage_view}
use Rattle.cc2_cli.specs.declared.show.Stage.{Stage}
use Rattle.cc2_show_answers.specs.Gets.{MergedGives, StageGives}
use Rattle.cc2_show_answers.specs.ShowQuestions.{resolved_at, told}
use Rattle.cc2_show_answers.specs.ToldAnswers.{written}
use Rattle.cc2_show_answers.proofs.get.get_at.Goals as goal

pub returns-in-Resolved : goal.returns-in-Resolved
returns-in-Resolved g c keyed fs tree =
    let machine = c.args.machine.now in
    let asked = request_view c.args.request in
    let choices = choices_of (map string_bytes c.args.choices.now) in
    let w = written c.resolved_answer.result in
    subst (λ (b : Bool). MergedGives fs machine b asked choices w) (sym c.if-not-request.false)
    (subst (λ (s : Stage). StageGives fs machine (stage_view s) asked choices w) (sym c.in-Resolved.is)
    (resolved_at (map (λ p. p.now) c.args.pieces.now) keyed (c.resolved_answer.ensures fs tree)))

pub returns-in-Files : goal.returns-in-Files
returns-in-Files g c keyed fs tree =
    let machine = c.args.machine.now in
    let asked = request_view c.args.request in
    let choices = choices_of (map string_bytes c.args.choices.now) in
    let w = written c.told_answer.result in
    subst (λ (b : Bool). MergedGives fs machine b asked choices w) (sym c.if-not-request.false)
    (subst (λ (s : Stage). StageGives fs machine (stage_view s) asked choices w) (sym c.in-Files.is)
    (told (map (λ p. p.now) c.args.pieces.now) keyed (c.told_answer.ensures fs tree)))

pub returns-in-Environment : goal.returns-in-Environment
returns-in-Environment g c keyed fs tree =
    let machine = c.args.machine.now in
    let asked = request_view c.args.request in
    let choices = choices_of (map string_bytes c.args.choices.now) in
    let w = written c.told_answer-in-Environment.result in
    subst (λ (b : Bool). MergedGives fs machine b asked choices w) (sym c.if-not-request.false)
    (subst (λ (s : Stage). StageGives fs machine (stage_view s) asked choices w) (sym c.in-Environment.is)
    (told (map (λ p. p.now) c.args.pieces.now) keyed (c.told_answer-in-Environment.ensures fs tree)))
