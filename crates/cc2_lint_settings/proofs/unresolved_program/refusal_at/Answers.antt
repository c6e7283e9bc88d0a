use Rattle.std.proofs.Common.{◌∷◌, [], ℕ, List, IfOk, option_map, sym, subst}
use Rattle.std.proofs.lemmas.Result.{IfOk-weaker}
use Rattle.cc2_value.specs.Singles.{text_value}
use Rattle.cc2_leaf.specs.Commands.{command_value}
use Rattle.cc2_resolved.specs.Answers.{command_answer, text_answer}
use Rattle.cc2_target.specs.Settings.{site_for}
use Rattle.cc2_target_table.specs.Target.{target_at}
use Rattle.cc2_lint_settings.specs.Errors.{IsErrorOf}
use Rattle.cc2_lint_settings.specs.Programs.{IsProgramRefusal, program_below, program_made}
use Rattle.cc2_lint_settings.proofs.Programs.{as_program}
use Rattle.cc2_lint_settings.proofs.Refusals.{stated}
use Rattle.cc2_lint_settings.proofs.unresolved_program.refusal_at.Goals as goal

pub returns-in-linker : goal.returns-in-linker
returns-in-linker c =
    let t = c.args.table.now in
    let dir = c.args.directory.now in
    subst (λ (key : List ℕ). IfOk c.refused.result (IsProgramRefusal dir (program_below (key ∷ []) (target_at t)))) (sym c.in-linker.is)
    (IfOk-weaker c.refused.result (IsErrorOf c.linker_of.result) (IsProgramRefusal dir (text_value t.linker []))
    (λ e error. stated (option_map text_answer) c.linker_of.result (program_made dir (text_value t.linker [])) e
    (rw c.as_ref.ensures.value at c.linker_of.ensures) error) c.refused.ensures)

pub returns-in-runner : goal.returns-in-runner
returns-in-runner c =
    let t = c.args.table.now in
    let dir = c.args.directory.now in
    subst (λ (key : List ℕ). IfOk c.refused-in-runner.result (IsProgramRefusal dir (program_below (key ∷ []) (target_at t)))) (sym c.in-runner.is)
    (IfOk-weaker c.refused-in-runner.result (IsErrorOf c.runner_of.result) (IsProgramRefusal dir (command_value t.runner []))
    (λ e error. stated (option_map command_answer) c.runner_of.result (program_made dir (command_value t.runner [])) e
    (rw (as_program (site_for dir) t.runner) at (rw c.as_ref-in-runner.ensures.value at c.runner_of.ensures)) error) c.refused-in-runner.ensures)
