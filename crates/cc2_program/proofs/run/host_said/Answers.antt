use Rattle.std.proofs.Common.{map, refl, string_bytes, subst, sym}
use Rattle.cc2_answers.specs.Questions.{TaskAsksGives}
use Rattle.cc2_cli.specs.Answers.{answer_text}
use Rattle.cc2_cli.specs.Choices.{choices_of}
use Rattle.cc2_cli.specs.GetWords.{host}
use Rattle.cc2_program.specs.Runs.{HostPrints, TaskWrites}
use Rattle.cc2_program.specs.SaidViews.{written}
use Rattle.cc2_command_line.specs.declared.choice.Rules.{Rules}
use Rattle.cc2_program.proofs.run.host_said.Goals as goal

pub returns-in-Crate-clause-asks : goal.returns-in-Crate-clause-asks
returns-in-Crate-clause-asks g c fs answers files programs =
    let reals = g.L.RealPaths.told c.args.reals.now in
    let runs = g.P.WithVariables.told_with c.args.programs.now in
    let machine = c.args.machine.now in
    let choices = choices_of (map string_bytes c.args.choices.now) in
    let overrides = map (λ text. text.now) c.args.overrides.now in
    let w = written c.question_said.result in
    subst (λ (rules : Rules). TaskWrites (HostPrints fs reals answers runs machine rules choices overrides) w) (sym c.in-Crate.is)
    (subst (λ dir. TaskWrites (TaskAsksGives fs answers machine (host dir) choices) w) c.as_str.ensures.value
    (c.question_said.ensures.asks fs answers files programs refl))

pub returns-in-Cargo-clause-asks : goal.returns-in-Cargo-clause-asks
returns-in-Cargo-clause-asks g c fs answers files programs =
    let reals = g.L.RealPaths.told c.args.reals.now in
    let runs = g.P.WithVariables.told_with c.args.programs.now in
    let machine = c.args.machine.now in
    let choices = choices_of (map string_bytes c.args.choices.now) in
    let overrides = map (λ text. text.now) c.args.overrides.now in
    let answer = c.cargo_host_answer.result in
    let w = written c.by_status.result in
    subst (λ (rules : Rules). TaskWrites (HostPrints fs reals answers runs machine rules choices overrides) w) (sym c.in-Cargo.is)
    (answer_text answer, answer.status, λ real_paths own real run. c.cargo_host_answer.ensures.told fs real_paths own files real run, c.by_status.ensures.is)
