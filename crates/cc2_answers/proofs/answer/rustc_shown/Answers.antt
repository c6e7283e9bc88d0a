use Rattle.std.proofs.Common.{◌≡◌, Ok, Some, option_map, refl, sym, ap, ◌∙◌, inr}
use Rattle.std.specs.Prelude.{unwrap_or}
use Rattle.cc2_error.specs.Causes.{refusal_of}
use Rattle.cc2_error.specs.Commands.{command_of}
use Rattle.cargo_config2.specs.RustcKept.{rustc_command_of}
use Rattle.cc2_cli.specs.CommandLines.{rustc_lines}
use Rattle.cc2_cli.proofs.Shown.{refused, shown}
use Rattle.cc2_answers.proofs.ShownRustc.{lines_of}
use Rattle.cc2_answers.proofs.answer.rustc_shown.Goals as goal

pub returns-in-Ok : goal.returns-in-Ok
returns-in-Ok g c fs told agrees =
    let command = rustc_command_of fs c.args.config.now in
    let text = c.rustc_lines.result in
    let lent : Some (command_of c.deref.result.now) ≡ Some command =
    sym (ap (option_map command_of) c.deref.ensures) ∙ c.in-Ok.ensures.answer fs told agrees in
    let lines = lines_of text (command_of c.deref.result.now) command
    (ap (λ o. unwrap_or o command) lent) c.rustc_lines.ensures in
    shown rustc_lines command (Ok command) text c.answer_of.result refl lines c.answer_of.ensures

pub returns-in-Err : goal.returns-in-Err
returns-in-Err g c fs told agrees =
    refused rustc_lines (Ok (rustc_command_of fs c.args.config.now)) (refusal_of c.in-Err.error)
    c.refusal_answer.result (inr c.in-Err.ensures.refused) c.refusal_answer.ensures
