use Rattle.std.proofs.Common.{map, refl, string_bytes, subst, sym}
use Rattle.cc2_answers.specs.Questions.{TaskGives}
use Rattle.cc2_cli.specs.Answers.{answer_text}
use Rattle.cc2_cli.specs.Choices.{choices_of}
use Rattle.cc2_cli.specs.GetWords.{rustc}
use Rattle.cc2_program.specs.Runs.{RustcPrints, TaskWrites}
use Rattle.cc2_program.specs.SaidViews.{written}
use Rattle.cc2_command_line.specs.declared.choice.Rules.{Rules}
use Rattle.cc2_program.proofs.run.rustc_said.Goals as goal

pub returns-in-Crate-clause-told : goal.returns-in-Crate-clause-told
returns-in-Crate-clause-told g c fs files =
    let reals = g.L.RealPaths.told c.args.reals.now in
    let machine = c.args.machine.now in
    let choices = choices_of (map string_bytes c.args.choices.now) in
    let overrides = map (λ text. text.now) c.args.overrides.now in
    let w = written c.question_said.result in
    subst (λ (rules : Rules). TaskWrites (RustcPrints fs reals machine rules choices overrides) w) (sym c.in-Crate.is)
    (subst (λ dir. TaskWrites (TaskGives fs machine (rustc dir) choices) w) c.as_str.ensures.value (c.question_said.ensures.told fs files refl))

pub returns-in-Cargo-clause-told : goal.returns-in-Cargo-clause-told
returns-in-Cargo-clause-told g c fs files =
    let reals = g.L.RealPaths.told c.args.reals.now in
    let machine = c.args.machine.now in
    let choices = choices_of (map string_bytes c.args.choices.now) in
    let overrides = map (λ text. text.now) c.args.overrides.now in
    let answer = c.cargo_rustc_answer.result in
    let w = written c.by_status.result in
    subst (λ (rules : Rules). TaskWrites (RustcPrints fs reals machine rules choices overrides) w) (sym c.in-Cargo.is)
    (answer_text answer, answer.status, λ real_paths real. c.cargo_rustc_answer.ensures.told fs real_paths files real, c.by_status.ensures.is)
