use Rattle.std.proofs.Common.{◌≡◌, ℕ, List, map, ap, inl, subst}
use Rattle.std.specs.Result.{result_map_both}
use Rattle.cc2_cargo.specs.Raw.{raw_members_at}
use Rattle.cc2_cargo_target.specs.Rustc.{rustc_command}
use Rattle.cc2_cli.proofs.Shown.{refused, shown}
use Rattle.cc2_cli.specs.Answers.{answer_text}
use Rattle.cc2_cli.specs.CommandLines.{rustc_lines}
use Rattle.cc2_error.specs.Causes.{refusal_of}
use Rattle.cc2_error.specs.Commands.{command_of}
use Rattle.cc2_program.specs.CargoPrograms.{PrintsCargoRustc}
use Rattle.cc2_program.proofs.CargoLoaded.{prints}
use Rattle.cc2_program.proofs.Ended.{found_or_error}
use Rattle.cc2_program.proofs.cargo_programs.cargo_rustc_answer.Goals as goal

pub returns-in-Ok-clause-one : goal.returns-in-Ok-clause-one
returns-in-Ok-clause-one g c = found_or_error c.rustc_lines.result c.answer_of.result c.answer_of.ensures

pub returns-in-Ok-clause-told : goal.returns-in-Ok-clause-told
returns-in-Ok-clause-told g c fs real_paths files reals =
    let machine = c.args.machine.now in
    let overrides = map (λ text. text.now) c.args.overrides.now in
    let dir = c.as_str-dir.result.now in
    let answer = c.answer_of.result in
    let outcome = result_map_both command_of refusal_of c.rustc_under.result in
    subst (λ (d : List ℕ). PrintsCargoRustc fs real_paths machine d overrides (answer_text answer) answer.status) c.as_str-dir.ensures.value
    (prints fs real_paths machine dir overrides (λ settings o. o ≡ rustc_command (raw_members_at settings) machine dir) rustc_lines outcome answer
    (c.rustc_under.ensures fs real_paths files reals)
    (shown rustc_lines (command_of c.in-Ok.command) outcome c.rustc_lines.result answer (ap (result_map_both command_of refusal_of) c.in-Ok.is)
    c.rustc_lines.ensures c.answer_of.ensures))

pub returns-in-Err-clause-told : goal.returns-in-Err-clause-told
returns-in-Err-clause-told g c fs real_paths files reals =
    let machine = c.args.machine.now in
    let overrides = map (λ text. text.now) c.args.overrides.now in
    let dir = c.as_str-dir.result.now in
    let answer = c.refusal_answer.result in
    let outcome = result_map_both command_of refusal_of c.rustc_under.result in
    subst (λ (d : List ℕ). PrintsCargoRustc fs real_paths machine d overrides (answer_text answer) answer.status) c.as_str-dir.ensures.value
    (prints fs real_paths machine dir overrides (λ settings o. o ≡ rustc_command (raw_members_at settings) machine dir) rustc_lines outcome answer
    (c.rustc_under.ensures fs real_paths files reals)
    (refused rustc_lines outcome (refusal_of c.in-Err.error) answer (inl (ap (result_map_both command_of refusal_of) c.in-Err.is)) c.refusal_answer.ensures))
