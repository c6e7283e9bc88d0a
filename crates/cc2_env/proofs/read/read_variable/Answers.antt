use Rattle.std.proofs.Common.{List, subst, sym, inl, inr}
use Rattle.std.specs.List.{Contains}
use Rattle.cc2_error.specs.Causes.{Refusal, refusal_of}
use Rattle.cc2_env.specs.Ranks.{variable_by}
use Rattle.cc2_env.proofs.Reading.{is_text, text_refusals, no_refusal, text_exit}
use Rattle.cc2_env.proofs.read.read_variable.Goals as goal

pub returns-in_err-text-clause-refused : goal.returns-in_err-text-clause-refused
returns-in_err-text-clause-refused g c =
    text_exit _ (variable_by c.args.name.now g.T.ReadEnv.text_way) c.args.value.now _ c.from_residual.ensures.1
    c.in_err-text.ensures

pub returns-in-Ok-clause-ok : goal.returns-in-Ok-clause-ok
returns-in-Ok-clause-ok g c =
    let is = is_text c.args.name.now c.args.value.now c.in_ok-text.text.now c.in_ok-text.ensures in (
      no_refusal (variable_by c.args.name.now g.T.ReadEnv.text_way) c.args.value.now c.in_ok-text.text.now
          c.in_ok-text.ensures c.in-Ok.ensures.ok.0,
      λ p. rw is.1 (c.in-Ok.ensures.ok.1 p),
    )

pub returns-in-Err-clause-refused : goal.returns-in-Err-clause-refused
returns-in-Err-clause-refused g c =
    let n = variable_by c.args.name.now g.T.ReadEnv.text_way in
    let same = text_refusals n c.args.value.now c.in_ok-text.text.now c.in_ok-text.ensures in
    elim (c.named.ensures (g.T.ReadEnv.text_way.faults c.in_ok-text.text.now) c.in-Err.ensures.refused) [
      | inl m ↦ inl m
      | inr h ↦ inr (subst (λ (rs : List Refusal). Contains rs (refusal_of c.named.result)) (sym same) h)
    ]
