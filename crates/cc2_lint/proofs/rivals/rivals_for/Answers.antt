use Rattle.std.proofs.Common.{◌≡◌, ◌⊎◌, inl, inr, Some}
use Rattle.cc2_error.specs.Causes.{refusal_of}
use Rattle.cc2_error.specs.Outcomes.{IsWantOfMemory}
use Rattle.cc2_error.proofs.Refused.{err_exit}
use Rattle.cc2_resolved.specs.ShownTargets.{target_at}
use Rattle.cc2_resolved.specs.Targets.{target_of}
use Rattle.cc2_target.proofs.Exits.{known_one}
use Rattle.cc2_lint.specs.Listed.{IsMatchCause}
use Rattle.cc2_lint.proofs.rivals.rivals_for.Goals as goal

pub returns-in_err-found-clause-refused : goal.returns-in_err-found-clause-refused
returns-in_err-found-clause-refused g c fs answers files programs =
    let text = c.args.text.now in
    let t = target_at c.in_ok-target.target in
    let is : target_of text ≡ Some t = known_one (target_of text) t _ c.in_ok-target.ensures.target in
    err_exit c.from_residual-in_err-found.result
    (λ e. IsWantOfMemory e ⊎ IsMatchCause fs answers c.args.machine.now c.args.dir.now text (refusal_of e))
    c.in_err-found.field-0.0 c.from_residual-in_err-found.ensures.1
    (elim (c.in_err-found.ensures.refused fs answers files programs) [
      | inl memory ↦ inl memory
      | inr untold ↦ inr (inr (t, is, untold))
    ])
