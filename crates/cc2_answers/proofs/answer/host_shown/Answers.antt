use Rattle.std.proofs.Common.{◌≡◌, [], Ok, ap, ◌∙◌, inl, inr}
use Rattle.std.specs.Prelude.{unwrap_or}
use Rattle.cc2_error.specs.Causes.{refusal_of}
use Rattle.cc2_rustc.specs.AskedVersions.{host_said}
use Rattle.cargo_config2.specs.Kept.{asked_by}
use Rattle.cargo_config2.specs.Lent.{lent_host}
use Rattle.cc2_cli.specs.CommandLines.{host_line}
use Rattle.cc2_cli.proofs.Shown.{refused, shown}
use Rattle.cc2_answers.proofs.answer.host_shown.Goals as goal

pub returns-in-Ok : goal.returns-in-Ok
returns-in-Ok g c fs answers files programs agrees =
    let said = host_said (asked_by fs c.args.config.now) answers in
    let lent : lent_host c.in-Ok.host ≡ c.as_str.result.now = ap (λ o. unwrap_or o []) c.as_str.ensures in
    shown host_line c.as_str.result.now said c.host_line.result c.answer_of.result
    (c.in-Ok.ensures.answer fs answers files programs agrees ∙ ap Ok lent) c.host_line.ensures c.answer_of.ensures

pub returns-in-Err : goal.returns-in-Err
returns-in-Err g c fs answers files programs agrees =
    let said = host_said (asked_by fs c.args.config.now) answers in
    elim (c.in-Err.ensures.answer fs answers files programs agrees) [
      | inl wants ↦ refused host_line said (refusal_of c.in-Err.error) c.refusal_answer.result
          (inr wants) c.refusal_answer.ensures
      | inr stated ↦ refused host_line said (refusal_of c.in-Err.error) c.refusal_answer.result
          (inl stated) c.refusal_answer.ensures
    ]
