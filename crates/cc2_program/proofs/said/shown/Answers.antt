use Rattle.std.proofs.Common.{ap, sym, true, ◌∙◌}
use Rattle.cc2_reports.specs.Characters.{visible_text}
use Rattle.cc2_program.proofs.Terminal.{of_bytes, of_text}
use Rattle.cc2_program.proofs.said.shown.Goals as goal

pub returns-in_ok-visible_text-in-Ok : goal.returns-in_ok-visible_text-in-Ok
returns-in_ok-visible_text-in-Ok c =
    ap (λ v. v.items) c.into_bytes.ensures.value ∙ c.in_ok-visible_text-in-Ok.ensures ∙ ap (visible_text true) c.in-Ok.ensures.cases.0
    ∙ sym (of_text c.args.text.now c.in-Ok.ensures.cases.1)

pub returns-in_ok-from_slice-in-Err : goal.returns-in_ok-from_slice-in-Err
returns-in_ok-from_slice-in-Err c = c.in_ok-from_slice-in-Err.ensures.items ∙ sym (of_bytes c.args.text.now c.in-Err.ensures.cases.0)
