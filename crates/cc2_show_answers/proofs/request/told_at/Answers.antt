use Rattle.std.proofs.Common.{Bool, map, string_bytes, sym, subst, refl, inl}
use Rattle.cc2_cli.specs.Choices.{choices_of}
use Rattle.cc2_cli.specs.ShowTasks.{request_view}
use Rattle.cc2_show_answers.specs.ShowQuestions.{GivesMerged, GivesValues, resolved_at, told}
use Rattle.cc2_show_answers.specs.ToldAnswers.{written}
use Rattle.cc2_show_answers.specs.declared.told.Told.TheVariants as variant
use Rattle.cc2_show_answers.proofs.request.told_at.Goals as goal

pub returns-then-not-request : goal.returns-then-not-request
returns-then-not-request g c keyed fs tree =
    subst (λ (b : Bool). GivesMerged fs c.args.machine.now b (request_view c.args.request) (choices_of (map string_bytes c.args.choices.now)) (written (variant.Shown c.unmerged_answer.result)))
    (sym c.if-not-request.true) (inl (map (λ p. p.now) c.args.pieces.now, keyed, c.unmerged_answer.ensures fs tree, refl))

pub returns-then-is_resolved : goal.returns-then-is_resolved
returns-then-is_resolved g c keyed fs tree =
    let request = request_view c.args.request in
    let choices = choices_of (map string_bytes c.args.choices.now) in
    let w = written c.resolved_answer.result in
    subst (λ (b : Bool). GivesMerged fs c.args.machine.now b request choices w) (sym c.if-not-request.false)
    (subst (λ (b : Bool). GivesValues fs c.args.machine.now b request choices w) c.if-is_resolved.ensures
    (resolved_at (map (λ p. p.now) c.args.pieces.now) keyed (c.resolved_answer.ensures fs tree)))

pub returns-else-is_resolved : goal.returns-else-is_resolved
returns-else-is_resolved g c keyed fs tree =
    let request = request_view c.args.request in
    let choices = choices_of (map string_bytes c.args.choices.now) in
    let w = written c.told_answer.result in
    subst (λ (b : Bool). GivesMerged fs c.args.machine.now b request choices w) (sym c.if-not-request.false)
    (subst (λ (b : Bool). GivesValues fs c.args.machine.now b request choices w) c.if-is_resolved.ensures
    (told (map (λ p. p.now) c.args.pieces.now) keyed (c.told_answer.ensures fs tree)))
