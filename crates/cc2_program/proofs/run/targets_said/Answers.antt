use Rattle.std.proofs.Common.{map, string_bytes, subst, sym}
use Rattle.cc2_cli.specs.Answers.{answer_text}
use Rattle.cc2_cli.specs.Choices.{choices_of}
use Rattle.cc2_command_line.specs.CommandViews.{targets_view}
use Rattle.cc2_program.specs.Runs.{RulesPrint, TaskWrites}
use Rattle.cc2_program.specs.SaidViews.{written}
use Rattle.cc2_command_line.specs.declared.choice.Rules.{Rules}
use Rattle.cc2_program.proofs.run.targets_said.Goals as goal

pub returns-in-Crate-clause-asks : goal.returns-in-Crate-clause-asks
returns-in-Crate-clause-asks g c fs answers files programs =
    let reals = g.L.RealPaths.told c.args.reals.now in
    let runs = g.P.WithVariables.told_with c.args.programs.now in
    let targets = c.args.targets.now in
    let choices = choices_of (map string_bytes c.args.choices.now) in
    let overrides = map (λ text. text.now) c.args.overrides.now in
    let answer = c.targets_answer.result in
    let w = written c.by_status.result in
    subst (λ (rules : Rules). TaskWrites (RulesPrint fs reals answers runs c.args.machine.now rules (targets_view targets) choices overrides) w) (sym c.in-Crate.is)
    (answer_text answer, answer.status, c.targets_answer.ensures.told fs answers files programs, c.by_status.ensures.is)

pub returns-in-Cargo-clause-asks : goal.returns-in-Cargo-clause-asks
returns-in-Cargo-clause-asks g c fs answers files programs =
    let reals = g.L.RealPaths.told c.args.reals.now in
    let runs = g.P.WithVariables.told_with c.args.programs.now in
    let targets = c.args.targets.now in
    let choices = choices_of (map string_bytes c.args.choices.now) in
    let overrides = map (λ text. text.now) c.args.overrides.now in
    let answer = c.cargo_targets_answer-answer.result in
    let w = written c.by_status-in-Cargo.result in
    subst (λ (rules : Rules). TaskWrites (RulesPrint fs reals answers runs c.args.machine.now rules (targets_view targets) choices overrides) w) (sym c.in-Cargo.is)
    (answer_text answer, answer.status, λ real_paths own real run. c.cargo_targets_answer-answer.ensures.told fs real_paths own files real run, c.by_status-in-Cargo.ensures.is)
