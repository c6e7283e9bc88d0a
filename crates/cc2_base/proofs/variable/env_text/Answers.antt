use Rattle.std.proofs.Common.{◌∙◌, ap, sym, inr, Err}
use Rattle.cc2_base.proofs.EnvTexts.{text_is, no_text}
use Rattle.cc2_base.proofs.variable.env_text.Goals as goal

pub returns-in-Ok : goal.returns-in-Ok
returns-in-Ok c = text_is c.args.name.now c.args.bytes.now _ c.in-Ok.ensures.cases.0 c.in-Ok.ensures.cases.1

pub returns-in_ok-not_text-in-Err : goal.returns-in_ok-not_text-in-Err
returns-in_ok-not_text-in-Err c =
    inr (no_text c.args.name.now c.args.bytes.now c.in-Err.ensures.cases.0 ∙ ap (λ r. Err r)
    (sym c.in_ok-not_text-in-Err.ensures))
